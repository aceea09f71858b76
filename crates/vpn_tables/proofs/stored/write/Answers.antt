use Rattle.std.specs.Prelude.{◌≡◌, true, false, cond, is_some}
use Rattle.std.specs.declared.option.Option.{Option}
use Rattle.std.specs.declared.option.Option.TheVariants.{Some, None}
use Rattle.std.specs.BTreeMap as tree
use Rattle.std.specs.BTreeMap.{BTreeMap}
use Rattle.std.specs.Option.{option_map}
use Rattle.std.proofs.Common.{refl, sym, ◌∙◌, ap}
use Rattle.vpn_tables.specs.Stored.{is_row, row_order}
use Rattle.vpn_tables.specs.declared.stored.Entry.{Entry}
use Rattle.vpn_tables.specs.declared.stored.RowKey.{RowKey}
use Rattle.vpn_tables.proofs.Order.{row_is}
use Rattle.vpn_tables.proofs.stored.write.Goals as goal

written : (old : BTreeMap RowKey Entry) (key : RowKey) (entry now : Entry) (o : Option Entry) (k : RowKey) → Some now ≡ tree.get row_order old key → o ≡ cond (is_row k key) (Some entry) (tree.get row_order old k)
    → o ≡ cond (is_row k key) (option_map (λ _. entry) (tree.get row_order old key)) (tree.get row_order old k)
written old key entry now o k there put = put ∙ ap (λ (f : Option Entry). cond (is_row k key) (option_map (λ _. entry) f) (tree.get row_order old k)) there

nowhere : (old : BTreeMap RowKey Entry) (key : RowKey) (entry : Entry) (k : RowKey) → None ≡ tree.get row_order old key
    → tree.get row_order old k ≡ cond (is_row k key) (option_map (λ _. entry) (tree.get row_order old key)) (tree.get row_order old k)
nowhere old key entry k none =
    elim (is_row k key) as (λ t. is_row k key ≡ t → tree.get row_order old k ≡ cond t (option_map (λ _. entry) (tree.get row_order old key)) (tree.get row_order old k)) [
      | true ↦ λ t. ap (tree.get row_order old) (sym (row_is k key t)) ∙ sym none ∙ ap (option_map (λ _. entry)) none
      | false ↦ λ _. refl
    ] refl

pub returns-in-Some : goal.returns-in-Some
returns-in-Some c k =
    written c.args.stored.now c.args.key c.args.entry c.in-Some.place.now (tree.get row_order (c.get_mut.follows.lender c.args.entry) k) k c.in-Some.ensures.value
    (((c.get_mut.follows.holds c.args.entry).3 (sym (ap is_some c.in-Some.ensures.value))).0 k)

pub returns-in-None : goal.returns-in-None
returns-in-None c k =
    ap (λ (m : BTreeMap RowKey Entry). tree.get row_order m k) c.get_mut.follows.holds-at-none
    ∙ nowhere c.args.stored.now c.args.key c.args.entry k c.in-None.ensures.value
