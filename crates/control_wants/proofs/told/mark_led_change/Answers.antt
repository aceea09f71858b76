use Rattle.std.specs.Prelude.{◌&&◌}
use Rattle.std.proofs.Common.{◌≢◌, refl, inl, inr}
use Rattle.vpn_tables.specs.Followed.{key_led}
use Rattle.vpn_tables.proofs.NodeModel.Orders.{same_prefix-from}
use Rattle.control_wants.specs.Marks.{IsEither, IsKey, no_item}
use Rattle.control_wants.proofs.Growing.{within_then}
use Rattle.control_wants.proofs.Only.{itself, no_other, only_itself, only_more, only_then}
use Rattle.control_wants.proofs.Telling.{both_marked}
use Rattle.control_wants.proofs.told.mark_led_change.Goals as goal

pub returns-then-ne-clause-within : goal.returns-then-ne-clause-within
returns-then-ne-clause-within c = within_then _ _ _ c.mark_led.ensures.within c.mark_led-then-ne.ensures.within

pub returns-then-ne-clause-marked : goal.returns-then-ne-clause-marked
returns-then-ne-clause-marked c =
    both_marked c.mark_led.new.dirty c.mark_led-then-ne.new.dirty _ (key_led c.args.before) (key_led c.args.after) c.mark_led.ensures.marked c.mark_led-then-ne.ensures.within c.mark_led-then-ne.ensures.marked

pub returns-then-ne-clause-only : goal.returns-then-ne-clause-only
returns-then-ne-clause-only c =
    let before = key_led c.args.before in
    let after = key_led c.args.after in
    let differs : c.args.before ≢ c.args.after = no_other _ c.args.before c.args.after c.if-ne.ensures (λ r i. same_prefix-from r.prefix r.prefix refl i && ((itself r.path.session i && (itself r.path.rd.0 i && (itself r.path.next_hop.0 i && itself r.path.label.0 i))) && itself r.target.0 i)) in
    let P = IsEither (c.args.before ≢ c.args.after) before after in
    only_then P no_item c.args.dirty.now c.mark_led.new.dirty c.mark_led-then-ne.new.dirty
    (only_more P no_item (IsKey before) no_item (λ k e. (differs, inl e)) (λ a k n. n) _ _ c.mark_led.ensures.only)
    (only_more P no_item (IsKey after) no_item (λ k e. (differs, inr e)) (λ a k n. n) _ _ c.mark_led-then-ne.ensures.only)

pub returns-else-ne-clause-only : goal.returns-else-ne-clause-only
returns-else-ne-clause-only c = only_itself (IsEither (c.args.before ≢ c.args.after) (key_led c.args.before) (key_led c.args.after)) no_item c.args.dirty.now
