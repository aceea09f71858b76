use Rattle.std.proofs.Common.{◌++◌, ◌∙◌}
use Rattle.std.specs.List.{filter}
use Rattle.ov_types.specs.declared.objects.LowKey.{LowKey}
use Rattle.ov_types.specs.declared.objects.LowValue.{LowValue}
use Rattle.path_select.specs.NodeModel.Wants.{is_in_slice}
use Rattle.vpn_holdings.proofs.KindWalks.{slice_in}
use Rattle.vpn_holdings.proofs.holdings.VpnHoldings.slice.Goals as goal

pub loop-key-init : goal.loop-key-init
loop-key-init c =
    let feed = c.args.self.now.feed in
    (λ i. c.new-objects.ensures.items i
    ++ filter (λ (e : LowKey × LowValue). is_in_slice feed c.args.address e.0 e.1) ((c.into_iter-key-iterator.ensures.into_iter_gives ∙ c.held_for_agents-key-items.ensures) i))
    ∙ slice_in feed c.args.address
