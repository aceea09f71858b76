use Rattle.std.proofs.Common.{◌≡◌, map, drop}
use Rattle.ov_types.specs.First.{first_of}
use Rattle.route_targets.specs.Forwarding.{source_at}
use Rattle.packet_trace.proofs.step.source_of.Given as goal

abbrev pub invariant-loop-place : goal.invariant-loop-place
invariant-loop-place g l =
    first_of (source_at l.fn.packet) (map g.V.Vrouter.forwarder l.agents)
    ≡ first_of (source_at l.fn.packet) (drop l.place (map g.V.Vrouter.forwarder l.agents))
