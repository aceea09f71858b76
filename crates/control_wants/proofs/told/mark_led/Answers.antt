use Rattle.std.proofs.Common.{◌≡◌, Some, ap, subst, sym, ◌∙◌}
use Rattle.std.specs.Option.{option_map}
use Rattle.std.proofs.lemmas.Option.{same_Some}
use Rattle.ov_types.specs.declared.vpn.VpnKey.{VpnKey}
use Rattle.vpn_tables.specs.Followed.{key_led, led_key}
use Rattle.vpn_tables.specs.NodeModel.Keys.{Vpn}
use Rattle.vpn_tables.proofs.NodeModel.Members.{none_some}
use Rattle.control_wants.specs.Marks.{IsCleanRoute, IsKey, no_item}
use Rattle.control_wants.proofs.Growing.{within_itself}
use Rattle.control_wants.proofs.Only.{only_itself, only_more}
use Rattle.control_wants.proofs.told.mark_led.Goals as goal

pub returns-in-Some-clause-marked : goal.returns-in-Some-clause-marked
returns-in-Some-clause-marked c = λ all k is clean.
    c.add_route.ensures.marked all
    (subst (λ (x : VpnKey). IsCleanRoute c.add_route.new.self (Vpn x)) (sym (same_Some (led_key c.in-Some.route) k (ap key_led (sym c.in-Some.is) ∙ is))) clean)

pub returns-in-None-clause-within : goal.returns-in-None-clause-within
returns-in-None-clause-within c = within_itself c.args.dirty.now

pub returns-in-None-clause-marked : goal.returns-in-None-clause-marked
returns-in-None-clause-marked c = λ all k is clean. none_some k (ap key_led (sym c.in-None.is) ∙ is)

pub returns-in-Some-clause-only : goal.returns-in-Some-clause-only
returns-in-Some-clause-only c =
    only_more (IsKey (key_led c.args.led)) no_item (λ k. k ≡ Vpn (led_key c.in-Some.route)) no_item
    (λ k e. ap (λ led. option_map Vpn (key_led led)) c.in-Some.is ∙ ap Some (sym e)) (λ a k n. n) c.args.dirty.now c.add_route.new.self c.add_route.ensures.only

pub returns-in-None-clause-only : goal.returns-in-None-clause-only
returns-in-None-clause-only c = only_itself (IsKey (key_led c.args.led)) no_item c.args.dirty.now
