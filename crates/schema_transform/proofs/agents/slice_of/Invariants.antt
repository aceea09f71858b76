use Rattle.std.proofs.Common.{◌≡◌, drop}
use Rattle.std.specs.Prelude.{◌++◌, filter}
use Rattle.schema_transform.specs.Concerning.{concerns_among}
use Rattle.schema_transform.proofs.agents.slice_of.Given as goal

abbrev pub invariant-loop-object : goal.invariant-loop-object
invariant-loop-object l =
    l.slice ++ filter (λ e. concerns_among l.networks.items l.address e.0 e.1) (drop l.object-index l.low)
    ≡ filter (λ e. concerns_among l.networks.items l.address e.0 e.1) l.low
