use Rattle.std.proofs.Common.{◌≡◌, ◌++◌, map, drop}
use Rattle.vpn_tables.specs.Stored.{key_at}
use Rattle.vpn_tables.proofs.following.keys_at.Given as goal

abbrev pub invariant-loop-instance : goal.invariant-loop-instance
invariant-loop-instance l = l.keys.items ++ map key_at (drop l.instance-index l.rows) ≡ map key_at l.rows
