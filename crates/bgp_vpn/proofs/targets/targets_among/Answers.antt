use Rattle.std.proofs.Common.{arith}
use Rattle.bgp_vpn.proofs.ValueLemmas.{next_target}
use Rattle.bgp_vpn.proofs.targets.targets_among.Goals as goal

pub loop-rest-preserved : goal.loop-rest-preserved
loop-rest-preserved c =
    next_target c.loop-rest.targets _ _ c.loop-rest.rest.now c.read_u64.result (omega arith) c.read_u64.ensures c.in_ok-insert_community.ensures c.loop-rest.invariant
