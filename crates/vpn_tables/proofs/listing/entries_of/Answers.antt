use Rattle.std.proofs.Common.{refl, ◌∙◌, ap}
use Rattle.std.specs.BTreeMap.Range.{range_contains}
use Rattle.std.specs.List.{filter_map}
use Rattle.std.specs.declared.ops.Bound.TheVariants.{Included, Excluded, Unbounded}
use Rattle.ov_types.specs.declared.numbers.InstanceId.{InstanceId}
use Rattle.vpn_tables.specs.Listed.{row_in}
use Rattle.vpn_tables.specs.Stored.{row_order}
use Rattle.vpn_tables.specs.declared.stored.Entry.{Entry}
use Rattle.vpn_tables.specs.declared.stored.RowKey.{RowKey}
use Rattle.vpn_tables.proofs.TableListed.{from_first, kept_rows, to_next}
use Rattle.vpn_tables.proofs.listing.entries_of.Goals as goal

pub returns-then-i-eq65535-clause-rows : goal.returns-then-i-eq65535-clause-rows
returns-then-i-eq65535-clause-rows c =
    let first = c.first_of-first in
    ap (filter_map (row_in c.args.i)) (c.range.ensures.between tt)
    ∙ kept_rows c.args.i (λ (e : RowKey × Entry). range_contains row_order (Included first.result) Unbounded e.0) c.args.stored.now.entries
    (λ e t. from_first first.result c.args.i e.0 first.ensures.instance first.ensures.addr first.ensures.len t)

pub returns-clause-rows : goal.returns-clause-rows
returns-clause-rows c =
    let first = c.first_of-first in
    let past = c.first_of-past in
    ap (filter_map (row_in c.args.i)) (c.range-2.ensures.between tt)
    ∙ kept_rows c.args.i (λ (e : RowKey × Entry). range_contains row_order (Included first.result) (Excluded past.result) e.0) c.args.stored.now.entries
    (λ e t. to_next first.result past.result c.args.i past.result.instance e.0 first.ensures.instance first.ensures.addr first.ensures.len refl past.ensures.addr past.ensures.len (ap (λ (i : InstanceId). i.0) past.ensures.instance) t)
