use Rattle.bgp_vpn.specs.Said.{put_to}
use Rattle.bgp_vpn.proofs.SaidLemmas.{one_more, all_done}
use Rattle.bgp_vpn.proofs.update.push_puts.Goals as goal

pub loop-route-preserved : goal.loop-route-preserved
loop-route-preserved c = (
  tt,
  tt,
  one_more (put_to c.args.update.now.next_hop c.args.update.now.targets) _ _ _ _ _ _ c.in-Some.route _ c.loop-route.invariant.2
      c.in-Some.ensures.steps c.in_ok-put_to.ensures c.in_ok-push.ensures.items,
)

pub returns : goal.returns
returns c =
    all_done (put_to c.args.update.now.next_hop c.args.update.now.targets) _ _ _ _ c.loop-route.invariant.2 c.in-None.ensures.steps.0
