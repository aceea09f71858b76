use Rattle.std.proofs.Common.{◌≡◌, ◌+◌, ◌++◌, ◌<◌, suc, [], List, map, length, get_or, ap, sym, subst, ◌∙◌, arith}
use Rattle.std.specs.declared.option.Option.{Option}
use Rattle.std.specs.FinMap.{get}
use Rattle.std.specs.List.{cons_option}
use Rattle.std.specs.Option.{option_map}
use Rattle.ov_sync.specs.declared.Delta.{Delta}
use Rattle.ov_sync.specs.Embed.{moved_delta}
use Rattle.ov_sync.specs.Keyed.{change, set_key}
use Rattle.ov_types.specs.declared.keys.DownKey.{DownKey}
use Rattle.ov_types.specs.declared.keys.DownValue.{DownValue}
use Rattle.vpn_tables.specs.NodeModel.Directions.{down_order}
use Rattle.node_core.specs.Told.{down_of, down_value}
use Rattle.vpn_tables.specs.NodeModel.Keys.{of_down}
use Rattle.vpn_tables.specs.NodeModel.Values.{same_value}
use Rattle.vpn_tables.proofs.NodeModel.Directions.{down_keeps}
use Rattle.control_wants.proofs.OneByOne.{SoFar, all_sent, all_told, so_far_more, so_far_none}
use Rattle.control_wants.proofs.item_sends.tell_items.Goals as goal

pub loop-key-init : goal.loop-key-init
loop-key-init c =
    subst (λ (ds : List (Delta DownKey DownValue)). SoFar of_down down_value c.args.wanted.now (down_of c.args.sent.now) 0 (map (moved_delta of_down down_value) ds) (down_of c.args.sent.now))
    (sym c.new-deltas.ensures.items) (so_far_none of_down down_value c.args.wanted.now (down_of c.args.sent.now))

pub loop-key-preserved : goal.loop-key-preserved
loop-key-preserved c =
    let l = c.loop-key in
    let e = c.loop-key-item.result in
    let at : e ≡ get_or c.args.wanted.now l.key-index e = c.loop-key-item.is in
    let wanted : c.in_ok-copied.field-0 ≡ (get_or c.args.wanted.now l.key-index e).1 = c.in_ok-copied.ensures ∙ ap (λ (e : DownKey × Option DownValue). e.1) at in
    let lt : l.key-index < length c.args.wanted.now = omega arith in
    let more : suc l.key-index ≡ l.key-index + 1 = omega arith in
    let sofar = map (moved_delta of_down down_value) l.deltas.items in
    let m = down_of l.sent in
    subst (λ i. SoFar of_down down_value c.args.wanted.now (down_of c.args.sent.now) i (map (moved_delta of_down down_value) c.tell_item.new.changes.items) (down_of c.tell_item.new.sent)) more
    (so_far_more of_down down_value c.args.wanted.now (down_of c.args.sent.now) l.key-index e sofar _ m _ lt l.invariant
    (c.in_ok-tell_item.ensures.change
    ∙ (λ j. sofar ++ cons_option (change same_value (of_down (at j).0) (get m (of_down (at j).0)) (option_map down_value (wanted j))) []))
    (c.in_ok-tell_item.ensures.sent ∙ (λ j. set_key m (of_down (at j).0) (option_map down_value (wanted j)))))

pub returns-clause-changes : goal.returns-clause-changes
returns-clause-changes c =
    let l = c.loop-key in
    let end : l.key-index ≡ length c.args.wanted.now = omega arith in
    all_told of_down down_value down_order down_keeps c.args.wanted.now (down_of c.args.sent.now) l.key-index (map (moved_delta of_down down_value) l.deltas.items) (down_of l.sent) end l.invariant c.requires

pub returns-clause-sent : goal.returns-clause-sent
returns-clause-sent c =
    let l = c.loop-key in
    let end : l.key-index ≡ length c.args.wanted.now = omega arith in
    all_sent of_down down_value c.args.wanted.now (down_of c.args.sent.now) l.key-index (map (moved_delta of_down down_value) l.deltas.items) (down_of l.sent) end l.invariant
