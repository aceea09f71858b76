use Rattle.std.proofs.Common.{◌≡◌, map}
use Rattle.inspect_changes.proofs.services.reversed.Given as goal

abbrev pub invariant-loop-number : goal.invariant-loop-number
invariant-loop-number l = l.services ≡ map (λ n. n.now) l.yielded
