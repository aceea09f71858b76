use Rattle.std.proofs.Common.{ap, sym, ◌∙◌, List}
use Rattle.std.specs.List.{filter_map}
use Rattle.ov_sync.specs.Keyed.{after}
use Rattle.item_wire.specs.declared.item.Item.{Item}
use Rattle.node_core.specs.Told.{change_of}
use Rattle.control_node.specs.Taking.{agent_by}
use Rattle.control_node.proofs.Applied.{agent-next, agent-same, stays-same, stays-then}
use Rattle.control_node.proofs.Iterated.{none_left}
use Rattle.control_node.proofs.Tracking.{marked_itself, marked_then}
use Rattle.control_node.proofs.taking.take_publications.Goals as goal

pub loop-item-init : goal.loop-item-init
loop-item-init c =
    let all = c.into_iter-item-iterator.ensures.into_iter_gives.0 in
    record {
      stays = stays-same c.args.tables.now;
      marked = marked_itself c.args.dirty.now c.args.tables.now;
      rest = ap (λ (items : List Item). agent_by (λ m. after m (filter_map change_of items)) c.args.tables.now c.args.session) all;
      agent = rw all c.requires.agent;
      writable = rw all c.requires.writable;
    }

pub returns-in_err-take_publication-clause-marked : goal.returns-in_err-take_publication-clause-marked
returns-in_err-take_publication-clause-marked c =
    marked_then _ _ _ _ _ _ c.loop-item.invariant.marked c.in_err-take_publication.ensures.marked

pub loop-item-preserved : goal.loop-item-preserved
loop-item-preserved c =
    let inv = c.loop-item.invariant in
    let held = c.loop-item.tables in
    let next = c.in-Some.ensures.steps.0 in
    record {
      stays = stays-then _ _ _ inv.stays c.in_ok-take_publication.ensures.stays;
      marked = marked_then _ _ _ _ _ _ inv.marked c.in_ok-take_publication.ensures.marked;
      rest = agent-next held c.take_publication.new.tables c.args.session c.in-Some.item c.next.new.self.rest.items c.in_ok-take_publication.ensures.ok
          ∙ ap (λ (items : List Item). agent_by (λ m. after m (filter_map change_of items)) held c.args.session) (sym next) ∙ inv.rest;
      agent = (rw next at inv.agent).1;
      writable = (rw next at inv.writable).1;
    }

pub returns-clause-ok : goal.returns-clause-ok
returns-clause-ok c =
    let l = c.loop-item in
    let none = none_left l.item-iterator.rest.items l.item-iterator.rest.len l.item-iterator.rest.ok.0 c.in-None.ensures.steps.0 in
    sym (agent-same l.tables c.args.session)
    ∙ ap (λ (items : List Item). agent_by (λ m. after m (filter_map change_of items)) l.tables c.args.session) (sym none) ∙ l.invariant.rest
