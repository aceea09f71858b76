use Rattle.std.proofs.Common.{of_calls, rules}
use Rattle.std.specs.Ordering.{is_lt}
use Rattle.std.proofs.lemmas.List.Sorted.{IsPartitionPoint-from_clause}
use Rattle.ov_types.specs.Keys.{row_key_cmp}
use Rattle.inspect_walks.proofs.RowLemmas.{Below, key_falls}
use Rattle.inspect_walks.proofs.Searching.{parted}
use Rattle.inspect_walks.proofs.rows.rows_before.Goals as goal

pub returns : goal.returns
returns c =
    let key = c.args.key.now in
    IsPartitionPoint-from_clause (λ r. is_lt (row_key_cmp r.0 key)) _ _ c.partition_point.ensures.partitioned
    (parted (λ r. is_lt (row_key_cmp r.0 key)) Below (key_falls key) c.args.rows.now c.requires)
    (λ a r q k. search (rules, of_calls))
