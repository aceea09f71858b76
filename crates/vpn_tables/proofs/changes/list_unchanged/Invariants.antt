use Rattle.std.proofs.Common.{◌≡◌, ◌++◌, map, drop}
use Rattle.vpn_tables.specs.Followed.{unchanged_at}
use Rattle.vpn_tables.proofs.changes.list_unchanged.Given as goal

abbrev pub invariant-loop-instance : goal.invariant-loop-instance
invariant-loop-instance l = l.changes.items ++ map (unchanged_at l.tables) (drop l.instance-index l.rows) ≡ map (unchanged_at l.tables) l.rows
