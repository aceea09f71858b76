use Rattle.std.proofs.Common.{ap, sym, ◌∙◌}
use Rattle.std.specs.FinMap.{get}
use Rattle.std.specs.Option.{option_map}
use Rattle.node_model.specs.Paths.{Holdings}
use Rattle.node_model.specs.Tables.{table}
use Rattle.vpn_holdings.specs.At.{row_at, shown}
use Rattle.vpn_holdings.proofs.Choosing.{shown_plain}
use Rattle.vpn_tables.specs.Stored.{key_at, stored_at}
use Rattle.vpn_tables.specs.declared.stored.Entry.{Entry}
use Rattle.vpn_tables.proofs.tables.VpnTables.row.Goals as goal

pub returns : goal.returns
returns c =
    let s = c.self.inside in
    let i = c.args.i in
    let q = c.args.prefix.now in
    c.shown.ensures
    ∙ ap (λ (e : Entry). option_map shown e.path) (c.entry_at-entry.ensures ∙ ap (stored_at s.stored) c.row_key.ensures ∙ c.self.invariant (key_at (i, q)))
    ∙ sym (shown_plain (get (table s.held i) q)) ∙ ap (λ (h : Holdings). row_at h i q) c.self.view_is
