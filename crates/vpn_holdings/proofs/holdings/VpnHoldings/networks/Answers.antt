use Rattle.std.proofs.Common.{◌++◌, ◌∙◌}
use Rattle.std.specs.List.{filter_map}
use Rattle.ov_types.specs.declared.objects.LowKey.{LowKey}
use Rattle.ov_types.specs.declared.objects.LowValue.{LowValue}
use Rattle.path_select.specs.NodeModel.Maps.{objects}
use Rattle.path_select.specs.NodeModel.Tables.{network_of}
use Rattle.vpn_holdings.proofs.KindWalks.{networks_in}
use Rattle.vpn_holdings.proofs.holdings.VpnHoldings.networks.Goals as goal

pub loop-key-init : goal.loop-key-init
loop-key-init c =
    (λ i. c.new-networks.ensures.items i
    ++ filter_map (λ (e : LowKey × LowValue). network_of e.0) ((c.into_iter-key-iterator.ensures.into_iter_gives ∙ c.held_networks-key-items.ensures) i))
    ∙ networks_in (objects c.args.self.now.feed)
