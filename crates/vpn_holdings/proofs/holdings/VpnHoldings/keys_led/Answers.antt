use Rattle.std.proofs.Common.{◌++◌, ap, ◌∙◌, List}
use Rattle.ov_types.specs.declared.vpn.VpnKey.{VpnKey}
use Rattle.path_select.specs.NodeModel.Uses.{uses}
use Rattle.std.specs.List.{flat_map}
use Rattle.vpn_holdings.specs.Touched.{is_touched}
use Rattle.vpn_holdings.specs.TouchedKeys.{keys_along, keys_if_touched}
use Rattle.vpn_holdings.proofs.Along.{along_passing}
use Rattle.vpn_holdings.proofs.holdings.VpnHoldings.keys_led.Goals as goal

pub returns : goal.returns
returns c =
    let h = c.args.self.now in
    c.in_ok-key_all.ensures
    ∙ ap (λ (l : List VpnKey). l ++ flat_map (keys_if_touched h c.args.targets.now) (uses h.feed)) c.new-keys.ensures.items
    ∙ along_passing (keys_along h) (is_touched h c.args.targets.now) (uses h.feed)
