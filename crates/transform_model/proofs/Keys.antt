-- Entries put into a map, in key order, one after the other; the orders of keys.
use Rattle.std.proofs.Common.{◌≡◌, ◌≢◌, inl, inr, ◌<◌, ℕ, List, [], ◌∷◌, ◌++◌, get_or, append-nil, refl, sym, ap, ◌∙◌, subst, arith}
use Rattle.std.specs.BTreeMap.{insert_entry}
use Rattle.std.specs.Cmp.{IsTotalOrder, on_total, nat_cmp_is}
use Rattle.std.specs.Cmp.Lexicographic.{slice_cmp, nat_list_cmp_total}
use Rattle.std.specs.FinMap.{slice_cmp-IsAntisymmetric, nat_cmp-IsAntisymmetric}
use Rattle.std.specs.List.{All, AllPairs}
use Rattle.std.specs.List.Sorted.{IsPermutation}
use Rattle.std.specs.Ordering.{nat_cmp, ordering_then, ordering_reverse, match_ordering}
use Rattle.std.specs.declared.cmp.Ordering.{Ordering}
use Rattle.std.specs.declared.cmp.Ordering.TheVariants.{Less, Equal, Greater}
use Rattle.std.proofs.lemmas.Bool.{cases_order}
use Rattle.std.proofs.lemmas.Cmp.{nat_cmp_total, then_total}
use Rattle.std.proofs.lemmas.List.Elements.{All-cons, All-head, All-tail}
use Rattle.std.proofs.lemmas.List.Kept.{AllPairs-cons}
use Rattle.std.proofs.lemmas.List.Sorted.{IsPermutation-refl, IsPermutation-sym, IsPermutation-trans, IsPermutation-cons, IsPermutation-middle, IsPermutation-append_left, All-permutation}
use Rattle.ov_types.specs.Keys.{low_key_cmp, row_key_cmp}
use Rattle.ov_types.specs.Prefix.{Block, block_cmp}
use Rattle.ov_types.specs.declared.objects.LowKey.{LowKey}
use Rattle.ov_types.specs.declared.objects.LowKey.TheVariants.{Instance, Attach, Acl, ChainUse}
use Rattle.ov_types.proofs.FirstLemmas.{pairs_head, pairs_tail}
use Rattle.node_model.specs.Keys.{low_numbers, low_of}
use Rattle.node_model.proofs.Orders.{then_equal}
use Rattle.transform_model.specs.Objects.{LowObject, with_objects}
use Rattle.transform_model.specs.Tables.{TableKey, Row, with_rows}
use Rattle.transform_model.proofs.Lists.{no_pairs}

-- ---- an entry put into a map

module _ {K X : Type 0} (cmp : K → K → Ordering) (k : K) (v : X) where
  all_put : (P : K → Type 0) (es : List (K × X)) → All (λ e. P e.0) es → P k → All (λ e. P e.0) (insert_entry cmp es k v)
  all_put P [] all here = All-cons (λ (e : K × X). P e.0) (k, v) [] here all
  all_put P (e ∷ es) all here =
      let Q : K × X → Type 0 = λ d. P d.0 in
      let first = All-head Q e es all in
      let rest = All-tail Q e es all in
      elim (cmp k e.0) as (λ o. All Q (match_ordering o ((k, v) ∷ e ∷ es) ((e.0, v) ∷ es) (e ∷ insert_entry cmp es k v))) [
        | Less ↦ All-cons Q (k, v) (e ∷ es) here all
        | Equal ↦ All-cons Q (e.0, v) es first rest
        | Greater ↦ All-cons Q e (insert_entry cmp es k v) first (all_put P es rest here)
      ]

  abbrev below : K × X → K × X → Type 0
  below d e = cmp d.0 e.0 ≡ Less

  -- keys in order stay so
  put_in_order : IsTotalOrder cmp → (es : List (K × X)) → AllPairs below es → AllPairs below (insert_entry cmp es k v)
  put_in_order order [] sorted = λ i j d lt within. absurd (omega arith)
  put_in_order order (e ∷ es) sorted =
      let first : All (below e) es = pairs_head below e es sorted in
      let rest : AllPairs below es = pairs_tail below e es sorted in
      elim (cmp k e.0) as (λ o. (o ≡ cmp k e.0) → AllPairs below (match_ordering o ((k, v) ∷ e ∷ es) ((e.0, v) ∷ es) (e ∷ insert_entry cmp es k v))) [
        | Less ↦ λ is.
            AllPairs-cons below (k, v) (e ∷ es)
            (All-cons (below (k, v)) e es (sym is) (λ i d lt. order.trans k e.0 (get_or es i d).0 (sym is) (first i d lt))) sorted
        | Equal ↦ λ is. AllPairs-cons below (e.0, v) es first rest
        | Greater ↦ λ is.
            let above : cmp e.0 k ≡ Less = order.antisymm e.0 k ∙ ap ordering_reverse (sym is) in
            AllPairs-cons below e (insert_entry cmp es k v) (all_put (λ q. cmp e.0 q ≡ Less) es first above) (put_in_order order es rest)
      ] refl

  -- an entry with a new key is added
  put_new : ((a b : K) → cmp a b ≡ Equal → a ≡ b) → (es : List (K × X)) → All (λ e. e.0 ≢ k) es → IsPermutation ((k, v) ∷ es) (insert_entry cmp es k v)
  put_new exact [] new = IsPermutation-refl ((k, v) ∷ [])
  put_new exact (e ∷ es) new =
      let Q : K × X → Type 0 = λ d. d.0 ≢ k in
      elim (cmp k e.0) as (λ o. (o ≡ cmp k e.0) → IsPermutation ((k, v) ∷ e ∷ es) (match_ordering o ((k, v) ∷ e ∷ es) ((e.0, v) ∷ es) (e ∷ insert_entry cmp es k v))) [
        | Less ↦ λ is. IsPermutation-refl ((k, v) ∷ e ∷ es)
        | Equal ↦ λ is. absurd (All-head Q e es new (sym (exact k e.0 (sym is))))
        | Greater ↦ λ is.
            IsPermutation-trans ((k, v) ∷ e ∷ es) (e ∷ (k, v) ∷ es) (e ∷ insert_entry cmp es k v)
            (IsPermutation-sym (e ∷ (k, v) ∷ es) ((k, v) ∷ e ∷ es) (IsPermutation-middle (e ∷ []) (k, v) es))
            (IsPermutation-cons e ((k, v) ∷ es) (insert_entry cmp es k v) (put_new exact es (All-tail Q e es new)))
      ] refl

-- ---- the entries of a list put into a map

abbrev all_with : {K X : Type 0} → (K → K → Ordering) → List (K × X) → List (K × X) → List (K × X)
all_with cmp es [] = es
all_with cmp es (r ∷ rs) = all_with cmp (insert_entry cmp es r.0 r.1) rs

module _ {K X : Type 0} (cmp : K → K → Ordering) (order : IsTotalOrder cmp) (exact : (a b : K) → cmp a b ≡ Equal → a ≡ b) where
  abbrev pub Before : K × X → K × X → Type 0
  Before d e = cmp d.0 e.0 ≡ Less

  -- a later entry has another key
  abbrev pub Differ : K × X → K × X → Type 0
  Differ d e = d.0 ≢ e.0

  all_in_order : (rs es : List (K × X)) → AllPairs Before es → AllPairs Before (all_with cmp es rs)
  all_in_order [] es sorted = sorted
  all_in_order (r ∷ rs) es sorted = all_in_order rs (insert_entry cmp es r.0 r.1) (put_in_order cmp r.0 r.1 order es sorted)

  all_added : (rs es : List (K × X)) → AllPairs Differ rs → All (λ s. All (λ e. Differ e s) es) rs → IsPermutation (es ++ rs) (all_with cmp es rs)
  all_added [] es pairs new = rw append-nil (IsPermutation-refl es)
  all_added (r ∷ rs) es pairs new =
      let N : K × X → Type 0 = λ s. All (λ e. Differ e s) es in
      let put : List (K × X) = insert_entry cmp es r.0 r.1 in
      let added : IsPermutation (r ∷ es) put = put_new cmp r.0 r.1 exact es (All-head N r rs new) in
      let others : All (λ s. All (λ e. Differ e s) put) rs = λ k d lt.
      All-permutation (λ (e : K × X). Differ e (get_or rs k d)) (r ∷ es) put added
      (All-cons (λ (e : K × X). Differ e (get_or rs k d)) r es (pairs_head Differ r rs pairs k d lt) (All-tail N r rs new k d lt)) in
      IsPermutation-trans (es ++ r ∷ rs) (r ∷ (es ++ rs)) (all_with cmp put rs)
      (IsPermutation-middle es r rs)
      (IsPermutation-trans (r ∷ (es ++ rs)) (put ++ rs) (all_with cmp put rs)
      (IsPermutation-append_left rs (r ∷ es) put added)
      (all_added rs put (pairs_tail Differ r rs pairs) others))

-- ---- rows

same_block : (p q : Block) → p.addr ≡ q.addr → p.len ≡ q.len → p ≡ q
same_block p q e f = λ i. record { addr = e i; len = f i }

both_equal : (o p : Ordering) → ordering_then o p ≡ Equal → (o ≡ Equal) × (p ≡ Equal)
both_equal Less p h = cc
both_equal Equal p h = (refl, h)
both_equal Greater p h = cc

row_order : IsTotalOrder row_key_cmp
row_order =
    then_total (on_total (λ (k : TableKey). k.0.0) nat_cmp_total)
    (then_total (on_total (λ (k : TableKey). k.1.addr) nat_cmp_total) (on_total (λ (k : TableKey). k.1.len) nat_cmp_total))

row_exact : (a b : TableKey) → row_key_cmp a b ≡ Equal → a ≡ b
row_exact a b h =
    let parts = both_equal (nat_cmp a.0.0 b.0.0) (block_cmp a.1 b.1) h in
    let block = both_equal (nat_cmp a.1.addr b.1.addr) (nat_cmp a.1.len b.1.len) parts.1 in
    let instance : a.0.0 ≡ b.0.0 = nat_cmp-IsAntisymmetric a.0.0 b.0.0 parts.0 in
    let prefix : a.1 ≡ b.1 = same_block a.1 b.1 (nat_cmp-IsAntisymmetric a.1.addr b.1.addr block.0) (nat_cmp-IsAntisymmetric a.1.len b.1.len block.1) in
    λ i. (record { 0 = instance i }, prefix i)

rows_are : (rs es : List Row) → with_rows es rs ≡ all_with row_key_cmp es rs
rows_are [] es = refl
rows_are (r ∷ rs) es = rows_are rs (insert_entry row_key_cmp es r.0 r.1)

pub rows_in_order : (rs : List Row) → AllPairs (λ r s. row_key_cmp r.0 s.0 ≡ Less) (with_rows [] rs)
rows_in_order rs =
    let Below : Row → Row → Type 0 = λ r s. row_key_cmp r.0 s.0 ≡ Less in
    subst (AllPairs Below) (sym (rows_are rs [])) (all_in_order row_key_cmp row_order row_exact rs [] (no_pairs Below))

pub rows_added : (rs : List Row) → AllPairs (λ r s. r.0 ≢ s.0) rs → IsPermutation rs (with_rows [] rs)
rows_added rs pairs =
    subst (IsPermutation rs) (sym (rows_are rs []))
    (all_added row_key_cmp row_order row_exact rs [] pairs (λ k d lt i e within. absurd (omega arith)))

-- ---- objects

same_low : (a b : LowKey) → slice_cmp nat_cmp (low_numbers a) (low_numbers b) ≡ low_key_cmp a b
same_low (Instance m) (Instance n) = then_equal (nat_cmp m n)
same_low (Instance m) (Attach n) = refl
same_low (Instance m) (Acl c d) = refl
same_low (Instance m) (ChainUse n) = refl
same_low (Attach m) (Instance n) = refl
same_low (Attach m) (Attach n) = then_equal (nat_cmp m n)
same_low (Attach m) (Acl c d) = refl
same_low (Attach m) (ChainUse n) = refl
same_low (Acl a b) (Instance n) = refl
same_low (Acl a b) (Attach n) = refl
same_low (Acl a b) (Acl c d) = ap (ordering_then (nat_cmp a c)) (then_equal (nat_cmp b d))
same_low (Acl a b) (ChainUse n) = refl
same_low (ChainUse m) (Instance n) = refl
same_low (ChainUse m) (Attach n) = refl
same_low (ChainUse m) (Acl c d) = refl
same_low (ChainUse m) (ChainUse n) = then_equal (nat_cmp m n)

abbrev by_numbers : LowKey → LowKey → Ordering
by_numbers a b = slice_cmp nat_cmp (low_numbers a) (low_numbers b)

same_lows : by_numbers ≡ low_key_cmp
same_lows = λ i a b. same_low a b i

low_order : IsTotalOrder low_key_cmp
low_order = subst IsTotalOrder same_lows (on_total low_numbers nat_list_cmp_total)

numbers_tell : (k : LowKey) → low_of (0 ∷ low_numbers k) ≡ k
numbers_tell (Instance n) = refl
numbers_tell (Attach label) = refl
numbers_tell (Acl from to) = refl
numbers_tell (ChainUse use_no) = refl

low_exact : (a b : LowKey) → low_key_cmp a b ≡ Equal → a ≡ b
low_exact a b e =
    sym (numbers_tell a)
    ∙ ap (λ (ns : List ℕ). low_of (0 ∷ ns)) (slice_cmp-IsAntisymmetric nat_cmp-IsAntisymmetric (low_numbers a) (low_numbers b) (same_low a b ∙ e))
    ∙ numbers_tell b

objects_are : (os es : List LowObject) → with_objects es os ≡ all_with low_key_cmp es os
objects_are [] es = refl
objects_are (o ∷ os) es = objects_are os (insert_entry low_key_cmp es o.0 o.1)

pub objects_in_order : (os : List LowObject) → AllPairs (λ d e. low_key_cmp d.0 e.0 ≡ Less) (with_objects [] os)
objects_in_order os =
    let Below : LowObject → LowObject → Type 0 = λ d e. low_key_cmp d.0 e.0 ≡ Less in
    subst (AllPairs Below) (sym (objects_are os [])) (all_in_order low_key_cmp low_order low_exact os [] (no_pairs Below))

pub objects_added : (os : List LowObject) → AllPairs (λ d e. d.0 ≢ e.0) os → IsPermutation os (with_objects [] os)
objects_added os pairs =
    subst (IsPermutation os) (sym (objects_are os []))
    (all_added low_key_cmp low_order low_exact os [] pairs (λ k d lt i e within. absurd (omega arith)))

-- ---- numbers

pub less_is : (a b : ℕ) → nat_cmp a b ≡ Less → a < b
less_is a b h =
    elim (cases_order a b) [
      | inl same ↦ let one : Equal ≡ nat_cmp a b = nat_cmp_is a b Equal same in let never : Equal ≡ Less = one ∙ h in cc
      | inr other ↦ elim other [
        | inl lt ↦ lt
        | inr gt ↦ let one : Greater ≡ nat_cmp a b = nat_cmp_is a b Greater gt in let never : Greater ≡ Less = one ∙ h in cc
      ]
    ]
