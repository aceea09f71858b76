use Rattle.std.proofs.Common.{◌≡◌, drop}
use Rattle.std.specs.List.{filter_map}
use Rattle.std.specs.Prelude.{◌==◌, ◌++◌, find}
use Rattle.schema_transform.proofs.uses.services_numbered.Given as goal

abbrev pub invariant-loop-number : goal.invariant-loop-number
invariant-loop-number l =
    l.services ++ filter_map (λ n. find (λ s. s.id.0 == n.0) l.config.services) (drop l.number-index l.numbers)
    ≡ filter_map (λ n. find (λ s. s.id.0 == n.0) l.config.services) l.numbers
