use Rattle.std.proofs.Common.{◌≡◌, ◌++◌, drop}
use Rattle.std.specs.List.{flat_map}
use Rattle.vpn_tables.specs.Changing.{rows_published}
use Rattle.vpn_tables.proofs.objects.push_all_published.Given as goal

abbrev pub invariant-loop-told : goal.invariant-loop-told
invariant-loop-told l =
    l.rows.items ++ flat_map (rows_published l.held l.of) (drop l.told-index l.told-items)
    ≡ l.fn.rows.items ++ flat_map (rows_published l.held l.of) l.told-items
