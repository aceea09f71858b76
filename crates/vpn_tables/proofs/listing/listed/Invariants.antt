use Rattle.std.proofs.Common.{◌≡◌, ◌++◌}
use Rattle.std.specs.List.{filter_map}
use Rattle.vpn_tables.specs.Listed.{row_in}
use Rattle.vpn_tables.proofs.listing.listed.Given as goal

abbrev pub invariant-loop-key : goal.invariant-loop-key
invariant-loop-key l = l.rows.items ++ filter_map (row_in l.i) l.key-iterator ≡ filter_map (row_in l.i) l.stored.entries
