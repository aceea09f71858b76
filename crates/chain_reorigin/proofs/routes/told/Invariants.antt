use Rattle.std.proofs.Common.{◌≡◌, ◌++◌, map}
use Rattle.chain_reorigin.specs.Counting.{told_entry}
use Rattle.chain_reorigin.proofs.routes.told.Given as goal

abbrev pub invariant-loop-key : goal.invariant-loop-key
invariant-loop-key l = l.routes.items ++ map told_entry l.key-iterator ≡ map told_entry l.counting.entries
