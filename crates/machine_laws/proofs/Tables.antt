-- A table by its paths, where the prefixes of its paths are those of some rows.
use Rattle.std.specs.FinMap.{from_entries, get}
use Rattle.std.specs.Option.{option_map}
use Rattle.std.specs.Prelude.{List, ◌≡◌}
use Rattle.std.specs.declared.option.Option.TheVariants.{None, Some}
use Rattle.std.specs.declared.option.Option.{Option}
use Rattle.std.proofs.Common.{ap, refl, subst, sym, ◌∙◌}
use Rattle.std.proofs.lemmas.Option.{same_Some}
use Rattle.ov_types.specs.Prefix.{Block, block_cmp}
use Rattle.ov_types.specs.declared.rows.TableRow.{TableRow}
use Rattle.node_laws.specs.NodeModel.Members.{Member}
use Rattle.node_laws.specs.NodeModel.Paths.{Path}
use Rattle.node_laws.specs.NodeModel.Reaching.{into}
use Rattle.node_laws.specs.NodeModel.Tables.{selected, table_row}
use Rattle.node_laws.proofs.NodeModel.Members.{entry_in, from_entry, none_some}
use Rattle.node_laws.proofs.NodeModel.Orders.{prefix_exact, prefix_total}
use Rattle.node_laws.proofs.NodeModel.Selection.{selected_found, selected_least}
use Rattle.machine_laws.specs.Settling.{back}
use Rattle.machine_laws.specs.Compiled.{row_at}

some_row : (o : Option Path) (r : TableRow) → option_map table_row o ≡ Some r → (p : Path) × (o ≡ Some p) × (table_row p ≡ r)
some_row None r e = absurd (none_some r e)
some_row (Some p) r e = (p, refl, same_Some (table_row p) r e)

pub row_of_table : (o : Option Path) (r : TableRow) → option_map table_row o ≡ Some r → (p : Path) × (o ≡ Some p) × (table_row p ≡ r)
row_of_table o r e = some_row o r e

pub selected_rows : (ps : List Path) (es : List (Block × TableRow)) → ((p : Path) → Member p ps → Member (row_at p.prefix (table_row p)) es) → ((x : Block) (r : TableRow) → Member (row_at x r) es → (p : Path) × Member p ps × (p.prefix ≡ x))
    → ((x : Block) (a b : TableRow) → Member (row_at x a) es → Member (row_at x b) es → a ≡ b) → (x : Block) → option_map table_row (get (selected ps) x) ≡ get (from_entries {R = block_cmp} es) x
selected_rows ps es into back one x = go (get (selected ps) x) (get (from_entries {R = block_cmp} es) x) refl refl
  where
    go : (o : Option Path) (r : Option TableRow) → get (selected ps) x ≡ o → get (from_entries {R = block_cmp} es) x ≡ r → option_map table_row o ≡ r
    go None None e f = refl
    go (Some b) None e f =
        let s = selected_least ps x b e in
        let v = entry_in prefix_total (row_at b.prefix (table_row b)) es (into b s.member) in
        absurd (none_some v.0 (sym f ∙ ap (get (from_entries {R = block_cmp} es)) (sym s.prefix_is) ∙ v.1))
    go None (Some r) e f =
        let p = back x r (from_entry prefix_total prefix_exact x r es f) in
        let b = selected_found ps p.0 p.1 in
        absurd (none_some b.0 (sym e ∙ ap (get (selected ps)) (sym p.2) ∙ b.1))
    go (Some b) (Some r) e f =
        let s = selected_least ps x b e in
        ap Some (one x (table_row b) r (subst (λ (x : Block). Member (row_at x (table_row b)) es) s.prefix_is (into b s.member)) (from_entry prefix_total prefix_exact x r es f))
