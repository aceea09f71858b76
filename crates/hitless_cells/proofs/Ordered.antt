-- Lines that are sorted are those that were there, and a stable sort gives them.
use Rattle.std.proofs.Common.{◌≡◌, ◌↔◌, ◌⊎◌, inl, inr, ℕ, ltb, eqb, Bool, true, false, cond, List, [], ◌∷◌, refl, ap, ◌∙◌, subst}
use Rattle.std.specs.Cmp.{IsStrictWeakOrder}
use Rattle.std.specs.List.{Contains}
use Rattle.std.specs.List.Sorted.{IsSortedByKey, IsStableByKey}
use Rattle.std.specs.Ordering.{nat_cmp, is_lt}
use Rattle.std.specs.declared.cmp.Ordering.TheVariants.{Less, Equal, Greater}
use Rattle.std.proofs.lemmas.Cmp.{nat_cmp_total}
use Rattle.std.proofs.lemmas.List.Sorted.{ranks_by}
use Rattle.ov_types.proofs.FirstLemmas.{contains_cases, contains_here, contains_later}
use Rattle.policy_regions.proofs.Sorting.{put, sort_is, sorted}
use Rattle.hitless_cells.specs.Lines.{by_number, by_ports, put_line}
use Rattle.hitless_cells.specs.declared.lines.Interruption.{Interruption}
use Rattle.hitless_cells.proofs.Celled.{nothing}

nat_before : (m n : ℕ) → is_lt (nat_cmp m n) ≡ ltb m n
nat_before m n =
    elim (ltb m n) as (λ b. is_lt (cond b Less (cond (eqb m n) Equal Greater)) ≡ b) [
      | true ↦ refl
      | false ↦ elim (eqb m n) as (λ b. is_lt (cond b Equal Greater) ≡ false) [ true ↦ refl | false ↦ refl ]
    ]

module _ (number : Interruption → ℕ) where
  abbrev earlier : Interruption → Interruption → Bool
  earlier l m = is_lt (nat_cmp (number l) (number m))

  earlier_order : IsStrictWeakOrder earlier
  earlier_order = ranks_by nat_cmp_total number

  put_is : (l : Interruption) (ms : List Interruption) → put earlier l ms ≡ put_line number l ms
  put_is l [] = refl
  put_is l (m ∷ ms) =
      ap (λ (b : Bool). cond b (m ∷ put earlier l ms) (l ∷ m ∷ ms)) (nat_before (number m) (number l))
      ∙ ap (λ (rest : List Interruption). cond (ltb (number m) (number l)) (m ∷ rest) (l ∷ m ∷ ms)) (put_is l ms)

  sorted_is : (ls : List Interruption) → sorted earlier ls ≡ by_number number ls
  sorted_is [] = refl
  sorted_is (l ∷ ls) = put_is l (sorted earlier ls) ∙ ap (put_line number l) (sorted_is ls)

  pub sorted_lines : (xs ys : List Interruption) → IsSortedByKey number nat_cmp ys → IsStableByKey number nat_cmp xs ys → ys ≡ by_number number xs
  sorted_lines xs ys up stable = sort_is earlier earlier_order xs ys up stable ∙ sorted_is xs

  in_put : (l m : Interruption) (ls : List Interruption) → (l ≡ m) ⊎ Contains ls m → Contains (put_line number l ls) m
  in_put l m [] h = elim h [ inl here ↦ subst (Contains (l ∷ [])) here (contains_here l []) | inr later ↦ nothing m later ]
  in_put l m (n ∷ ls) h =
      elim (ltb (number n) (number l)) as (λ b. Contains (cond b (n ∷ put_line number l ls) (l ∷ n ∷ ls)) m) [
        | true ↦ elim h [
          | inl here ↦ contains_later m n (put_line number l ls) (in_put l m ls (inl here))
          | inr at ↦ elim (contains_cases n ls m at) [
            | inl first ↦ subst (Contains (n ∷ put_line number l ls)) first (contains_here n (put_line number l ls))
            | inr later ↦ contains_later m n (put_line number l ls) (in_put l m ls (inr later))
          ]
        ]
        | false ↦ elim h [
          | inl here ↦ subst (Contains (l ∷ n ∷ ls)) here (contains_here l (n ∷ ls))
          | inr at ↦ contains_later m l (n ∷ ls) at
        ]
      ]

  put_in : (l m : Interruption) (ls : List Interruption) → Contains (put_line number l ls) m → (l ≡ m) ⊎ Contains ls m
  put_in l m [] at = contains_cases l [] m at
  put_in l m (n ∷ ls) at =
      elim (ltb (number n) (number l)) as (λ b. Contains (cond b (n ∷ put_line number l ls) (l ∷ n ∷ ls)) m → (l ≡ m) ⊎ Contains (n ∷ ls) m) [
        | true ↦ λ at. elim (contains_cases n (put_line number l ls) m at) [
          | inl first ↦ inr (subst (Contains (n ∷ ls)) first (contains_here n ls))
          | inr later ↦ elim (put_in l m ls later) [ inl here ↦ inl here | inr rest ↦ inr (contains_later m n ls rest) ]
        ]
        | false ↦ λ at. contains_cases l (n ∷ ls) m at
      ] at

  in_sorted : (m : Interruption) (ls : List Interruption) → Contains ls m ↔ Contains (by_number number ls) m
  in_sorted m [] = (λ at. at, λ at. at)
  in_sorted m (l ∷ ls) = (
    λ at. in_put l m (by_number number ls) (elim (contains_cases l ls m at) [ inl here ↦ inl here | inr later ↦ inr ((in_sorted m ls).0 later) ]),
    λ at. elim (put_in l m (by_number number ls) at) [
      | inl here ↦ subst (Contains (l ∷ ls)) here (contains_here l ls)
      | inr later ↦ contains_later m l ls ((in_sorted m ls).1 later)
    ],
  )

-- lines by their ports are those that were there
pub in_order : (m : Interruption) (ls : List Interruption) → Contains ls m ↔ Contains (by_ports ls) m
in_order m ls =
    let first = in_sorted (λ l. l.to.0) m ls in
    let second = in_sorted (λ l. l.from.0) m (by_number (λ l. l.to.0) ls) in
    (λ at. second.0 (first.0 at), λ at. first.1 (second.1 at))
