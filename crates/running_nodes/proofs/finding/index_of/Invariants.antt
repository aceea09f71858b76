use Rattle.std.proofs.Common.{◌≡◌, drop}
use Rattle.running_nodes.specs.Seats.{index_from, is_name}
use Rattle.running_nodes.proofs.finding.index_of.Given as goal

abbrev pub invariant-loop-index : goal.invariant-loop-index
invariant-loop-index l =
    index_from 0 (is_name l.name) l.names ≡ index_from l.index (is_name l.name) (drop l.index l.names)
