use Rattle.std.proofs.Common.{◌≡◌, drop}
use Rattle.ov_types.specs.First.{same_name}
use Rattle.running_nodes.specs.Seats.{index_from}
use Rattle.running_nodes.proofs.finding.edge_named.Given as goal

abbrev pub invariant-loop-index : goal.invariant-loop-index
invariant-loop-index l =
    index_from 0 (λ e. same_name e.name l.name) l.edges ≡ index_from l.index (λ e. same_name e.name l.name) (drop l.index l.edges)
