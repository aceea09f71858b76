use Rattle.std.proofs.Common.{refl}
use Rattle.bgp_vpn.specs.Said.{dropped}
use Rattle.bgp_vpn.proofs.SaidLemmas.{one_more, all_done}
use Rattle.bgp_vpn.proofs.update.push_drops.Goals as goal

pub loop-route-preserved : goal.loop-route-preserved
loop-route-preserved c = (
  tt,
  tt,
  one_more dropped _ _ _ _ _ _ c.in-Some.route _ c.loop-route.invariant.2 c.in-Some.ensures.steps refl c.in_ok-push.ensures.items,
)

pub returns : goal.returns
returns c = all_done dropped _ _ _ _ c.loop-route.invariant.2 c.in-None.ensures.steps.0
