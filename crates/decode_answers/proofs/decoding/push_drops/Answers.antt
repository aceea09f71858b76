use Rattle.bgp_vpn.specs.Said.{dropped}
use Rattle.decode_answers.proofs.ToldRoutes.{all_told, one_told}
use Rattle.decode_answers.proofs.decoding.push_drops.Goals as goal

pub loop-route-preserved : goal.loop-route-preserved
loop-route-preserved c = (
  tt,
  tt,
  one_told dropped _ _ _ _ _ c.in-Some.route c.loop-route.invariant.2 c.in-Some.ensures.steps c.in_ok-drop_lines.ensures.ok,
)

pub returns : goal.returns
returns c = all_told dropped _ _ _ c.loop-route.invariant.2 c.in-None.ensures.steps.0
