-- Prefixes in ascending order, and policies by sequence.
use Rattle.std.proofs.Common.{◌≡◌, inl, inr, ℕ, ◌≤◌, ltb, eqb, Bool, true, false, cond, List, [], ◌∷◌, map, refl, sym, ap, ◌∙◌, subst, arith, Bor}
use Rattle.std.specs.Cmp.{IsStrictWeakOrder, IsTotalOrder}
use Rattle.std.specs.List.{AllPairs}
use Rattle.std.specs.List.Sorted.{IsPermutation, IsSorted, IsStable, IsSortedByKey, IsStableByKey}
use Rattle.std.specs.Ordering.{nat_cmp, ordering_then, is_lt}
use Rattle.std.specs.declared.cmp.Ordering.{Ordering}
use Rattle.std.specs.declared.cmp.Ordering.TheVariants.{Less, Equal, Greater}
use Rattle.std.proofs.lemmas.Bool.{cases_lt, ltb-false}
use Rattle.std.proofs.lemmas.Cmp.{nat_cmp_total, on_total, then_total, tied_itself}
use Rattle.std.proofs.lemmas.List.Sorted.{ranks_by, IsPermutation-sym}
use Rattle.ov_types.specs.Prefix.{Block, block_cmp}
use Rattle.config_types.specs.declared.config.Policy.{Policy}
use Rattle.policy_rules.specs.Related.{put_by_sequence, by_sequence}
use Rattle.acl_compile.specs.Laws.{ComesNoLater}
use Rattle.acl_compile.specs.Oriented.{put_prefix, ascending}
use Rattle.acl_compile.proofs.Sorting.{put, sorted, sorted_permutes, sorted_rises, sort_is}

-- prefixes

block_order : IsTotalOrder block_cmp
block_order = then_total (on_total (λ (p : Block). p.addr) nat_cmp_total) (on_total (λ (p : Block). p.len) nat_cmp_total)

abbrev before : Block → Block → Bool
before p q = is_lt (block_cmp p q)

before_order : IsStrictWeakOrder before
before_order = ranks_by block_order (λ (p : Block). p)

put_is : (p : Block) (qs : List Block) → put_prefix p qs ≡ put before p qs
put_is p [] = refl
put_is p (q ∷ qs) = ap (λ (rest : List Block). cond (before q p) (q ∷ rest) (p ∷ q ∷ qs)) (put_is p qs)

ascending_is : (ps : List Block) → ascending ps ≡ sorted before ps
ascending_is [] = refl
ascending_is (p ∷ ps) = ap (put_prefix p) (ascending_is ps) ∙ put_is p (sorted before ps)

pub sorted_ascend : (xs ys : List Block) → IsSorted block_cmp ys → IsStable block_cmp xs ys → ys ≡ ascending xs
sorted_ascend xs ys up stable = sort_is before before_order xs ys up stable ∙ sym (ascending_is xs)

pub ascending_permutes : (ps : List Block) → IsPermutation ps (ascending ps)
ascending_permutes ps =
    subst (λ (qs : List Block). IsPermutation ps qs) (sym (ascending_is ps)) (IsPermutation-sym _ _ (sorted_permutes before ps))

nat_before : (m n : ℕ) → is_lt (nat_cmp m n) ≡ ltb m n
nat_before m n =
    elim (ltb m n) as (λ b. is_lt (cond b Less (cond (eqb m n) Equal Greater)) ≡ b) [
      | true ↦ refl
      | false ↦ elim (eqb m n) as (λ b. is_lt (cond b Equal Greater) ≡ false) [ true ↦ refl | false ↦ refl ]
    ]

not_before : (m n : ℕ) → is_lt (nat_cmp m n) ≡ false → n ≤ m
not_before m n h = ltb-false m n (sym (nat_before m n) ∙ h)

after_none : (o r : Ordering) → is_lt (ordering_then o r) ≡ false → (is_lt o ≡ false) × (o ≡ Equal → is_lt r ≡ false)
after_none Less r h = cc
after_none Equal r h = (refl, λ e. h)
after_none Greater r h = (refl, λ e. cc)

no_later : (p q : Block) → before q p ≡ false → ComesNoLater p q
no_later p q h =
    let parts = after_none (nat_cmp q.addr p.addr) (nat_cmp q.len p.len) h in
    let first : p.addr ≤ q.addr = not_before q.addr p.addr parts.0 in
    elim (cases_lt p.addr q.addr) [
      | inl less ↦ inl less
      | inr more ↦
          let same : p.addr ≡ q.addr = omega arith in
          let tied : nat_cmp q.addr p.addr ≡ Equal = ap (nat_cmp q.addr) same ∙ tied_itself nat_cmp_total q.addr in
          inr (same, not_before q.len p.len (parts.1 tied))
    ]

pub ascending_rises : (ps : List Block) → AllPairs ComesNoLater (ascending ps)
ascending_rises ps =
    let up : AllPairs ComesNoLater (sorted before ps) = λ i j d low within. no_later _ _ (sorted_rises before before_order ps i j d low within) in
    subst (λ (qs : List Block). AllPairs ComesNoLater qs) (sym (ascending_is ps)) up

-- policies that are lent

abbrev earlier : Bor Policy → Bor Policy → Bool
earlier p q = is_lt (nat_cmp p.now.sequence q.now.sequence)

earlier_order : IsStrictWeakOrder earlier
earlier_order = ranks_by nat_cmp_total (λ (p : Bor Policy). p.now.sequence)

abbrev lent : List (Bor Policy) → List Policy
lent ps = map (λ p. p.now) ps

put_lent : (p : Bor Policy) (qs : List (Bor Policy)) → lent (put earlier p qs) ≡ put_by_sequence p.now (lent qs)
put_lent p [] = refl
put_lent p (q ∷ qs) =
    ap (λ (b : Bool). lent (cond b (q ∷ put earlier p qs) (p ∷ q ∷ qs))) (nat_before q.now.sequence p.now.sequence)
    ∙ elim (ltb q.now.sequence p.now.sequence) as (λ b. lent (cond b (q ∷ put earlier p qs) (p ∷ q ∷ qs)) ≡ cond b (q.now ∷ put_by_sequence p.now (lent qs)) (p.now ∷ q.now ∷ lent qs)) [
      | true ↦ ap (λ (rest : List Policy). q.now ∷ rest) (put_lent p qs)
      | false ↦ refl
    ]

sorted_lent : (ps : List (Bor Policy)) → lent (sorted earlier ps) ≡ by_sequence (lent ps)
sorted_lent [] = refl
sorted_lent (p ∷ ps) = put_lent p (sorted earlier ps) ∙ ap (put_by_sequence p.now) (sorted_lent ps)

pub sorted_by_sequence : (xs ys : List (Bor Policy)) → IsSortedByKey (λ (p : Bor Policy). p.now.sequence) nat_cmp ys
    → IsStableByKey (λ (p : Bor Policy). p.now.sequence) nat_cmp xs ys → map (λ p. p.now) ys ≡ by_sequence (map (λ p. p.now) xs)
sorted_by_sequence xs ys up stable = ap lent (sort_is earlier earlier_order xs ys up stable) ∙ sorted_lent xs
