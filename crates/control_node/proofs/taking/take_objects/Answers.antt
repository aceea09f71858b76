use Rattle.std.proofs.Common.{ap, sym, ◌∙◌, List}
use Rattle.std.specs.List.{filter_map}
use Rattle.ov_sync.specs.Keyed.{after}
use Rattle.item_wire.specs.declared.item.Item.{Item}
use Rattle.node_core.specs.Told.{change_of}
use Rattle.control_node.specs.Taking.{feed_by}
use Rattle.control_node.proofs.Applied.{feed-next, stays-same, stays-then}
use Rattle.control_node.proofs.Tracking.{marked_itself, marked_then}
use Rattle.control_node.proofs.taking.take_objects.Goals as goal

pub loop-item-init : goal.loop-item-init
loop-item-init c =
    let all = c.into_iter-item-iterator.ensures.into_iter_gives.0 in
    record {
      stays = stays-same c.args.tables.now;
      marked = marked_itself c.args.dirty.now c.args.tables.now;
      rest = ap (λ (items : List Item). feed_by (λ m. after m (filter_map change_of items)) c.args.tables.now) all;
      feed = rw all c.requires.feed;
      writable = rw all c.requires.writable;
    }

pub returns-in_err-take_object-clause-marked : goal.returns-in_err-take_object-clause-marked
returns-in_err-take_object-clause-marked c =
    marked_then _ _ _ _ _ _ c.loop-item.invariant.marked c.in_err-take_object.ensures.marked

pub loop-item-preserved : goal.loop-item-preserved
loop-item-preserved c =
    let inv = c.loop-item.invariant in
    let held = c.loop-item.tables in
    let next = c.in-Some.ensures.steps.0 in
    record {
      stays = stays-then _ _ _ inv.stays c.in_ok-take_object.ensures.stays;
      marked = marked_then _ _ _ _ _ _ inv.marked c.in_ok-take_object.ensures.marked;
      rest = feed-next held c.take_object.new.tables c.in-Some.item c.next.new.self.rest.items c.in_ok-take_object.ensures.ok
          ∙ ap (λ (items : List Item). feed_by (λ m. after m (filter_map change_of items)) held) (sym next) ∙ inv.rest;
      feed = (rw next at inv.feed).1;
      writable = (rw next at inv.writable).1;
    }
