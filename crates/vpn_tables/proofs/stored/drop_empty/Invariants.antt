use Rattle.std.proofs.Common.{◌≡◌}
use Rattle.vpn_tables.specs.Stored.{stored_at}
use Rattle.vpn_tables.specs.declared.stored.RowKey.{RowKey}
use Rattle.vpn_tables.proofs.stored.drop_empty.Given as goal

abbrev pub invariant-loop-key : goal.invariant-loop-key
invariant-loop-key l = (k : RowKey) → stored_at l.stored k ≡ stored_at l.fn.stored k
