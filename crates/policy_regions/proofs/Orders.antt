-- Policies by sequence.
use Rattle.std.proofs.Common.{◌≡◌, ℕ, ltb, eqb, Bool, true, false, cond, List, [], ◌∷◌, map, refl, ap, ◌∙◌, Bor}
use Rattle.std.specs.Cmp.{IsStrictWeakOrder}
use Rattle.std.specs.List.Sorted.{IsSortedByKey, IsStableByKey}
use Rattle.std.specs.Ordering.{nat_cmp, is_lt}
use Rattle.std.specs.declared.cmp.Ordering.TheVariants.{Less, Equal, Greater}
use Rattle.std.proofs.lemmas.Cmp.{nat_cmp_total}
use Rattle.std.proofs.lemmas.List.Sorted.{ranks_by}
use Rattle.config_types.specs.declared.config.Policy.{Policy}
use Rattle.policy_rules.specs.Related.{put_by_sequence, by_sequence}
use Rattle.policy_regions.proofs.Sorting.{put, sorted, sort_is}

nat_before : (m n : ℕ) → is_lt (nat_cmp m n) ≡ ltb m n
nat_before m n =
    elim (ltb m n) as (λ b. is_lt (cond b Less (cond (eqb m n) Equal Greater)) ≡ b) [
      | true ↦ refl
      | false ↦ elim (eqb m n) as (λ b. is_lt (cond b Equal Greater) ≡ false) [ true ↦ refl | false ↦ refl ]
    ]

-- policies that are lent

abbrev earlier : Bor Policy → Bor Policy → Bool
earlier p q = is_lt (nat_cmp p.now.sequence q.now.sequence)

earlier_order : IsStrictWeakOrder earlier
earlier_order = ranks_by nat_cmp_total (λ (p : Bor Policy). p.now.sequence)

abbrev lent : List (Bor Policy) → List Policy
lent ps = map (λ p. p.now) ps

put_lent : (p : Bor Policy) (qs : List (Bor Policy)) → lent (put earlier p qs) ≡ put_by_sequence p.now (lent qs)
put_lent p [] = refl
put_lent p (q ∷ qs) =
    ap (λ (b : Bool). lent (cond b (q ∷ put earlier p qs) (p ∷ q ∷ qs))) (nat_before q.now.sequence p.now.sequence)
    ∙ elim (ltb q.now.sequence p.now.sequence) as (λ b. lent (cond b (q ∷ put earlier p qs) (p ∷ q ∷ qs)) ≡ cond b (q.now ∷ put_by_sequence p.now (lent qs)) (p.now ∷ q.now ∷ lent qs)) [
      | true ↦ ap (λ (rest : List Policy). q.now ∷ rest) (put_lent p qs)
      | false ↦ refl
    ]

sorted_lent : (ps : List (Bor Policy)) → lent (sorted earlier ps) ≡ by_sequence (lent ps)
sorted_lent [] = refl
sorted_lent (p ∷ ps) = put_lent p (sorted earlier ps) ∙ ap (put_by_sequence p.now) (sorted_lent ps)

pub sorted_by_sequence : (xs ys : List (Bor Policy)) → IsSortedByKey (λ (p : Bor Policy). p.now.sequence) nat_cmp ys
    → IsStableByKey (λ (p : Bor Policy). p.now.sequence) nat_cmp xs ys → map (λ p. p.now) ys ≡ by_sequence (map (λ p. p.now) xs)
sorted_by_sequence xs ys up stable = ap lent (sort_is earlier earlier_order xs ys up stable) ∙ sorted_lent xs
