use Rattle.std.proofs.Common.{List, ap, ◌∙◌}
use Rattle.std.specs.BTreeMap.{is_at}
use Rattle.std.specs.Map.{lookup}
use Rattle.node_model.specs.Paths.{Holdings}
use Rattle.vpn_tables.specs.Stored.{entry_or, row_order}
use Rattle.vpn_tables.specs.declared.stored.Entry.{Entry}
use Rattle.vpn_tables.specs.declared.stored.RowKey.{RowKey}
use Rattle.vpn_tables.proofs.Nothing.{nothing_follows}
use Rattle.vpn_tables.proofs.tables.VpnTables.new.Goals as goal

pub invariant_of-result : goal.invariant_of-result
invariant_of-result c = λ k.
    ap (λ (es : List (RowKey × Entry)). entry_or (lookup (is_at (row_order k)) es)) c.new-2.ensures.empty
    ∙ nothing_follows c.new.result (ap (λ (h : Holdings). h.feed) c.new.ensures) k
