use Rattle.std.proofs.Common.{◌<◌, arith, ltb, rules}
use Rattle.std.proofs.lemmas.Bool.{lt-ltb, ltb-true}
use Rattle.std.proofs.lemmas.List.Sorted.{IsPartitionPoint-from_clause}
use Rattle.inspect_walks.proofs.Searching.{parted}
use Rattle.inspect_walks.proofs.rows.labels_before.Goals as goal

pub returns : goal.returns
returns c =
    let n = c.args.label.0 in
    IsPartitionPoint-from_clause (λ e. ltb e.0.0 n) _ _ c.partition_point.ensures.partitioned
    (parted (λ e. ltb e.0.0 n) (λ l m. l.0.0 < m.0.0) (λ x y less e. lt-ltb x.0.0 n (omega (arith, less, ltb-true y.0.0 n e))) c.args.labels.now c.requires)
    (λ a r q k. search rules)
