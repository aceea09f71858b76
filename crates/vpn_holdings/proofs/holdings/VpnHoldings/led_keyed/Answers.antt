use Rattle.std.proofs.Common.{ap, sym, ◌∙◌, true, false, subst}
use Rattle.std.specs.declared.option.Option.{Option}
use Rattle.std.specs.Option.{option_map}
use Rattle.ov_types.specs.declared.numbers.InstanceId.{InstanceId}
use Rattle.path_select.specs.NodeModel.Agent.{first_some}
use Rattle.path_select.specs.NodeModel.Paths.{Holdings, Path}
use Rattle.path_select.specs.NodeModel.Ranks.{instance_in}
use Rattle.path_select.specs.NodeModel.Reaching.{AreShort}
use Rattle.vpn_holdings.specs.At.{led_at}
use Rattle.vpn_holdings.specs.Routes.{path_of}
use Rattle.vpn_holdings.specs.TouchedKeys.{first_keyed}
use Rattle.vpn_holdings.proofs.LedAt.{led_first}
use Rattle.vpn_holdings.proofs.Short.{AreNumbered, numbered_feed, short_feed}
use Rattle.vpn_holdings.proofs.holdings.VpnHoldings.led_keyed.Goals as goal

pub returns-in-Some : goal.returns-in-Some
returns-in-Some c =
    let h = c.args.self.now in
    let k = c.args.key.now in
    let short = subst (λ (h : Holdings). AreShort h.feed) c.self.view_is (short_feed c.self.inside.low.entries c.self.invariant.0) in
    let numbered = subst (λ (h : Holdings). AreNumbered h.feed) c.self.view_is (numbered_feed c.self.inside.low.entries c.self.invariant.0) in
    let right = ap (λ (i : InstanceId). first_keyed k (led_at h i k.prefix true)) (sym c.instance_of-hop.ensures) ∙ sym c.led_keyed_at.ensures ∙ ap (option_map path_of) c.in-Some.is in
    sym (led_first h k short numbered ∙ ap (λ (o : Option Path). first_some o (first_keyed k (led_at h (instance_in k.rd) k.prefix false))) right)

pub returns-in-None : goal.returns-in-None
returns-in-None c =
    let h = c.args.self.now in
    let k = c.args.key.now in
    let short = subst (λ (h : Holdings). AreShort h.feed) c.self.view_is (short_feed c.self.inside.low.entries c.self.invariant.0) in
    let numbered = subst (λ (h : Holdings). AreNumbered h.feed) c.self.view_is (numbered_feed c.self.inside.low.entries c.self.invariant.0) in
    let right = ap (λ (i : InstanceId). first_keyed k (led_at h i k.prefix true)) (sym c.instance_of-hop.ensures) ∙ sym c.led_keyed_at.ensures ∙ ap (option_map path_of) c.in-None.is in
    c.led_keyed_at-in-None.ensures ∙ ap (λ (i : InstanceId). first_keyed k (led_at h i k.prefix false)) c.instance_of-hop.ensures
    ∙ sym (led_first h k short numbered ∙ ap (λ (o : Option Path). first_some o (first_keyed k (led_at h (instance_in k.rd) k.prefix false))) right)
