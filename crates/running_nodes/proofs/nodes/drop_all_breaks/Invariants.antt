use Rattle.std.proofs.Common.{◌≡◌}
use Rattle.running_nodes.specs.Changes.{unbroken_outer}
use Rattle.running_nodes.proofs.Cleared.{mapped_to}
use Rattle.running_nodes.proofs.nodes.drop_all_breaks.Given as goal

abbrev pub invariant-loop-index : goal.invariant-loop-index
invariant-loop-index l = l.edges ≡ mapped_to unbroken_outer l.index l.initial.edges
