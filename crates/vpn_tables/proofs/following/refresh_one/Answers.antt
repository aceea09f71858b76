use Rattle.std.specs.Prelude.{◌≡◌, Bool, true, false, cond}
use Rattle.std.specs.BTreeMap as tree
use Rattle.std.specs.BTreeMap.{BTreeMap}
use Rattle.std.specs.Option.{option_map}
use Rattle.std.proofs.Common.{refl, ◌∙◌, ap}
use Rattle.node_model.specs.Paths.{Holdings}
use Rattle.vpn_tables.specs.Stored.{entry_of, is_row, row_order}
use Rattle.vpn_tables.specs.declared.stored.Entry.{Entry}
use Rattle.vpn_tables.specs.declared.stored.RowKey.{RowKey}
use Rattle.vpn_tables.proofs.Order.{row_is}
use Rattle.vpn_tables.proofs.following.refresh_one.Goals as goal

-- what holds at a key, and of each key else, holds of each key by whether it is the one
by_key : (P : RowKey → Bool → Type 0) (key : RowKey) → ((k : RowKey) → key ≡ k → P k true) → ((k : RowKey) → P k false) → (k : RowKey) → P k (is_row k key)
by_key P key f g k = elim (is_row k key) as (λ t. is_row k key ≡ t → P k t) [ true ↦ λ t. f k (row_is k key t) | false ↦ λ _. g k ] refl

-- what follows at the key is written
follows_written : (old new : BTreeMap RowKey Entry) (h : Holdings) (key : RowKey) (e : Entry) → e ≡ entry_of h key
    → ((k : RowKey) → tree.get row_order new k ≡ cond (is_row k key) (option_map (λ _. e) (tree.get row_order old key)) (tree.get row_order old k)) → (k : RowKey)
    → tree.get row_order new k ≡ cond (is_row k key) (option_map (λ _. entry_of h k) (tree.get row_order old k)) (tree.get row_order old k)
follows_written old new h key e is put k =
    put k
    ∙ by_key (λ k t. cond t (option_map (λ _. e) (tree.get row_order old key)) (tree.get row_order old k) ≡ cond t (option_map (λ _. entry_of h k) (tree.get row_order old k)) (tree.get row_order old k)) key
    (λ k same. λ n. option_map (λ _. (is ∙ ap (entry_of h) same) n) (tree.get row_order old (same n))) (λ k. refl) k

pub returns-clause-entries : goal.returns-clause-entries
returns-clause-entries g c = follows_written c.args.stored.now c.write.new.stored c.args.held.now c.args.key.now c.follow-entry.result c.follow-entry.ensures.entry c.write.ensures
