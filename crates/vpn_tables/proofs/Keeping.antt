-- What is stored stays what follows, where what may differ is made anew.
use Rattle.std.specs.Prelude.{◌≡◌, ◌≤◌, ◌+◌, ℕ, suc, length, List, [], ◌∷◌, map, Bool, true, false, cond, is_some}
use Rattle.std.specs.declared.option.Option.{Option}
use Rattle.std.specs.declared.option.Option.TheVariants.{Some, None}
use Rattle.std.specs.BTreeMap as tree
use Rattle.std.specs.BTreeMap.{BTreeMap, is_at}
use Rattle.std.specs.Cmp.{Equal-is}
use Rattle.std.specs.Map.{lookup}
use Rattle.std.specs.Map.Calls.{RetainsPairs}
use Rattle.std.specs.List.{list_any}
use Rattle.std.specs.Option.{option_map}
use Rattle.std.proofs.lemmas.Bool.{true≢false, or_left, or_right}
use Rattle.std.proofs.Common.{refl, sym, ◌∙◌, ap, inl, inr, arith}
use Rattle.ov_types.specs.Prefix.{Block}
use Rattle.ov_types.specs.declared.numbers.InstanceId.{InstanceId}
use Rattle.node_model.specs.Members.{Member}
use Rattle.node_model.specs.Paths.{Holdings}
use Rattle.vpn_tables.specs.Stored.{AreStored, entry_of, entry_or, is_row, key_at, nothing_stored, row_order, stored_at}
use Rattle.vpn_tables.specs.declared.stored.Entry.{Entry}
use Rattle.vpn_tables.specs.declared.stored.RowKey.{RowKey}
use Rattle.vpn_tables.proofs.Order.{row_exact, row_itself}

abbrev renewed : Entry → Option Entry → Option Entry
renewed e o = option_map (λ _. e) o

-- ---- a listed row is among the keys
pub listed : (k : RowKey) (rows : List (InstanceId × Block)) → Member (k.instance, k.prefix) rows → list_any (is_row k) (map key_at rows) ≡ true
listed k [] m = absurd m
listed k (e ∷ rows) (inl is) = or_left (is_row k (key_at e)) (list_any (is_row k) (map key_at rows)) (ap (λ (e : InstanceId × Block). is_row k (key_at e)) is ∙ row_itself k)
listed k (e ∷ rows) (inr m) = or_right (is_row k (key_at e)) (list_any (is_row k) (map key_at rows)) (listed k rows m)

pub not_listed : (keys : List RowKey) (rows : List (InstanceId × Block)) (k : RowKey) → keys ≡ map key_at rows → list_any (is_row k) keys ≡ false → Member (k.instance, k.prefix) rows → ⊥
not_listed keys rows k e none m = true≢false (sym (listed k rows m) ∙ ap (list_any (is_row k)) (sym e) ∙ none)

-- ---- what is made anew in its places
pub renewed_stored : (stored next : BTreeMap RowKey Entry) (keys : List RowKey) (h g : Holdings) → AreStored stored h
    → ((k : RowKey) → list_any (is_row k) keys ≡ true → is_some (tree.get row_order stored k) ≡ true)
    → ((k : RowKey) → list_any (is_row k) keys ≡ false → entry_of h k ≡ entry_of g k)
    → ((k : RowKey) → tree.get row_order next k ≡ cond (list_any (is_row k) keys) (renewed (entry_of g k) (tree.get row_order stored k)) (tree.get row_order stored k))
    → AreStored next g
renewed_stored stored next keys h g are places same is k =
    ap entry_or (is k) ∙ by_case (list_any (is_row k) keys) (tree.get row_order stored k) (places k) (same k) (are k)
  where
    by_case : (b : Bool) (o : Option Entry) → (b ≡ true → is_some o ≡ true) → (b ≡ false → entry_of h k ≡ entry_of g k) → entry_or o ≡ entry_of h k
        → entry_or (cond b (renewed (entry_of g k) o) o) ≡ entry_of g k
    by_case true None p s e = absurd (true≢false (sym (p refl)))
    by_case true (Some x) p s e = refl
    by_case false o p s e = e ∙ s refl

-- ---- what is made anew in each place, and dropped where that is nothing
pub retained : {F : Type 0} (T : F → RowKey → Entry → Bool → Entry → F → Type 0) (h : Holdings) (I : F → Type 0)
    → ((f : F) (k : RowKey) (v : Entry) (b : Bool) (w : Entry) (g : F) → I f → T f k v b w g → ((w ≡ entry_of h k) × (b ≡ false → w ≡ nothing_stored)) × I g)
    → (f : F) (es kept : List (RowKey × Entry)) → I f → RetainsPairs T f es kept → (k : RowKey)
    → entry_or (lookup (is_at (row_order k)) kept) ≡ cond (is_some (lookup (is_at (row_order k)) es)) (entry_of h k) nothing_stored
retained T h I told f [] kept i s k = ap (λ (l : List (RowKey × Entry)). entry_or (lookup (is_at (row_order k)) l)) s
retained T h I told f (e ∷ es) kept i s k =
    let b = s.0 in
    let w = s.1 in
    let rest = s.3 in
    let t = told f e.0 e.1 b w s.2 i s.4 in
    let later = retained T h I told s.2 es rest t.1 s.5 k in
    ap (λ (l : List (RowKey × Entry)). entry_or (lookup (is_at (row_order k)) l)) s.6
    ∙ elim (is_at (row_order k) e.0) as (λ c. is_at (row_order k) e.0 ≡ c → entry_or (lookup (is_at (row_order k)) (cond b ((e.0, w) ∷ rest) rest))
    ≡ cond (is_some (cond c (Some e.1) (lookup (is_at (row_order k)) es))) (entry_of h k) nothing_stored) [
      | true ↦ λ c.
          let is : k ≡ e.0 = row_exact k e.0 ((Equal-is (row_order k e.0)).0 c) in
          let same : w ≡ entry_of h k = t.0.0 ∙ ap (entry_of h) (sym is) in
          elim b as (λ x. b ≡ x → entry_or (lookup (is_at (row_order k)) (cond x ((e.0, w) ∷ rest) rest)) ≡ entry_of h k) [
            | true ↦ λ _. ap (λ x. entry_or (cond x (Some w) (lookup (is_at (row_order k)) rest))) c ∙ same
            | false ↦ λ x. later ∙ either (is_some (lookup (is_at (row_order k)) es)) (sym (sym same ∙ t.0.1 x))
          ] refl
      | false ↦ λ c.
          elim b as (λ x. entry_or (lookup (is_at (row_order k)) (cond x ((e.0, w) ∷ rest) rest)) ≡ cond (is_some (lookup (is_at (row_order k)) es)) (entry_of h k) nothing_stored) [
            | true ↦ ap (λ x. entry_or (cond x (Some w) (lookup (is_at (row_order k)) rest))) c ∙ later
            | false ↦ later
          ]
    ] refl
  where
    either : (x : Bool) → nothing_stored ≡ entry_of h k → cond x (entry_of h k) nothing_stored ≡ entry_of h k
    either true n = refl
    either false n = n

-- where nothing follows any more where nothing followed, that is what follows
pub retained_stored : (stored next : BTreeMap RowKey Entry) (h g : Holdings) → AreStored stored h → ((k : RowKey) → nothing_stored ≡ entry_of h k → nothing_stored ≡ entry_of g k)
    → ((k : RowKey) → stored_at next k ≡ cond (is_some (tree.get row_order stored k)) (entry_of g k) nothing_stored) → AreStored next g
retained_stored stored next h g are less is k = is k ∙ by_case (tree.get row_order stored k) (are k)
  where
    by_case : (o : Option Entry) → entry_or o ≡ entry_of h k → cond (is_some o) (entry_of g k) nothing_stored ≡ entry_of g k
    by_case (Some e) f = refl
    by_case None f = less k f

-- ---- steps
many : (rows : List (InstanceId × Block)) → length (map key_at rows) ≡ length rows
many [] = refl
many (e ∷ rows) = ap suc (many rows)

pub few_steps : (after before : ℕ) (keys : List RowKey) (rows : List (InstanceId × Block)) (bound : ℕ) → after ≤ before + length keys → keys ≡ map key_at rows → length rows ≤ bound → after ≤ before + bound
few_steps after before keys rows bound h e f = at_most (length keys) (length rows) (ap length e ∙ many rows) h f
  where
    at_most : (m n : ℕ) → m ≡ n → after ≤ before + m → n ≤ bound → after ≤ before + bound
    at_most m n e h f = omega arith
