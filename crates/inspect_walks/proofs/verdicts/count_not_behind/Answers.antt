use Rattle.std.proofs.Common.{of_calls, rules}
use Rattle.std.proofs.lemmas.List.Sorted.{IsPartitionPoint-from_clause}
use Rattle.inspect_walks.specs.Taking.{is_not_behind}
use Rattle.inspect_walks.proofs.Lists.{Below, not_behind_falls}
use Rattle.inspect_walks.proofs.Searching.{parted}
use Rattle.inspect_walks.proofs.verdicts.count_not_behind.Goals as goal

pub returns-clause-point : goal.returns-clause-point
returns-clause-point c =
    let n = c.args.network.0 in
    IsPartitionPoint-from_clause (λ e. is_not_behind n e.0) _ _ c.partition_point.ensures.partitioned
    (parted (λ e. is_not_behind n e.0) Below (λ d e less h. not_behind_falls n d.0 e.0 less h) c.args.lists.now c.requires)
    (λ a r q k. search (rules, of_calls))
