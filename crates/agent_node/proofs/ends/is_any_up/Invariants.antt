use Rattle.std.proofs.Common.{◌≡◌, drop}
use Rattle.std.specs.List.{list_any}
use Rattle.node_core.specs.Beginning.{phase_of}
use Rattle.agent_node.specs.Core.{is_up}
use Rattle.agent_node.proofs.ends.is_any_up.Given as goal

abbrev pub invariant-loop-hearing : goal.invariant-loop-hearing
invariant-loop-hearing l =
    list_any (λ h. is_up (phase_of h.session.state)) (drop l.hearing-index l.hearings)
    ≡ list_any (λ h. is_up (phase_of h.session.state)) l.hearings
