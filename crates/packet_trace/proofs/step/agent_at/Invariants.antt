use Rattle.std.proofs.Common.{◌≡◌, map, drop}
use Rattle.route_targets.specs.Forwarding.{agent_at}
use Rattle.packet_trace.proofs.step.agent_at.Given as goal

abbrev pub invariant-loop-place : goal.invariant-loop-place
invariant-loop-place g l =
    agent_at (map g.V.Vrouter.forwarder l.agents) l.address ≡ agent_at (drop l.place (map g.V.Vrouter.forwarder l.agents)) l.address
