use Rattle.std.proofs.Common.{◌≡◌, ◌++◌, length}
use Rattle.bgp_wire.specs.Parts.{parts_in}
use Rattle.bgp_wire.specs.Capabilities.{capabilities_in}
use Rattle.bgp_wire.proofs.capability.split_capability.Given as goal

abbrev pub invariant-loop-kind : goal.invariant-loop-kind
invariant-loop-kind l = parts_in l.initial.rest ++ capabilities_in l.initial.parameters ≡ parts_in l.rest ++ capabilities_in l.parameters

abbrev pub decreases-loop-kind : goal.decreases-loop-kind
decreases-loop-kind l = length l.parameters
