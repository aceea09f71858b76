-- The order of paths and the imports of a place, spelled out.
use Rattle.std.specs.Prelude.{◌≡◌, ◌⊎◌, ◌↔◌, ℕ, ◌<◌, ◌≤◌, [], ◌∷◌, Bool, true, false, cond, ◌==◌}
use Rattle.std.specs.declared.cmp.Ordering.{Ordering}
use Rattle.std.specs.declared.cmp.Ordering.TheVariants.{Less, Equal, Greater}
use Rattle.std.specs.Ordering.{nat_cmp, is_lt, ordering_then}
use Rattle.std.specs.Cmp.{ranked, nat_cmp_is}
use Rattle.std.proofs.lemmas.Bool.{true≢false, eqb-true, eq-eqb}
use Rattle.std.proofs.Common.{refl, sym, ◌∙◌, ap, subst, inl, inr}
use Rattle.ov_types.specs.declared.numbers.InstanceId.{InstanceId}
use Rattle.node_model.specs.Members.{Member}
use Rattle.node_model.specs.Maps.{Map}
use Rattle.node_model.specs.Uses.{Use, uses, hop, imports, IsImportedAt}
use Rattle.node_model.specs.Paths.{Path}
use Rattle.node_model.specs.Tables.{is_better, IsBetter}
use Rattle.node_model.proofs.Members.{in_left, in_right, in_either}
use Rattle.node_model.proofs.Objects.{ends, imports_hop}

-- ---- the order of paths
less_from : (m n : ℕ) (rest : Ordering) → is_lt (ordering_then (nat_cmp m n) rest) ≡ true → (m < n) ⊎ ((m ≡ n) × (is_lt rest ≡ true))
less_from m n rest e = by_case (nat_cmp m n) refl e
  where
    by_case : (r : Ordering) → nat_cmp m n ≡ r → is_lt (ordering_then r rest) ≡ true → (m < n) ⊎ ((m ≡ n) × (is_lt rest ≡ true))
    by_case Less is e = inl (ranked m n Less (sym is))
    by_case Equal is e = inr (ranked m n Equal (sym is), e)
    by_case Greater is e = absurd (true≢false (sym e))

less_to : (m n : ℕ) (rest : Ordering) → (m < n) ⊎ ((m ≡ n) × (is_lt rest ≡ true)) → is_lt (ordering_then (nat_cmp m n) rest) ≡ true
less_to m n rest (inl h) = ap (λ r. is_lt (ordering_then r rest)) (sym (nat_cmp_is m n Less h))
less_to m n rest (inr h) = ap (λ r. is_lt (ordering_then r rest)) (sym (nat_cmp_is m n Equal h.0)) ∙ h.1

last_from : (m n : ℕ) → is_lt (ordering_then (nat_cmp m n) Equal) ≡ true → m < n
last_from m n e = elim (less_from m n Equal e) as (λ _. m < n) [ inl h ↦ h | inr h ↦ absurd (true≢false (sym h.1)) ]

pub better_is : (a b : Path) → (is_better a b ≡ true) ↔ IsBetter a b
better_is a b = (
  (λ e. elim (less_from a.next_hop.0 b.next_hop.0 _ e) as (λ _. IsBetter a b) [
    | inl h ↦ inl h
    | inr h ↦ inr (
      h.0,
      elim (less_from a.label.0 b.label.0 _ h.1) as (λ _. (a.label.0 < b.label.0) ⊎ ((a.label.0 ≡ b.label.0) × ((a.rd.0 < b.rd.0) ⊎ ((a.rd.0 ≡ b.rd.0) × (a.session < b.session))))) [
        | inl h ↦ inl h
        | inr h ↦ inr (
          h.0,
          elim (less_from a.rd.0 b.rd.0 _ h.1) as (λ _. (a.rd.0 < b.rd.0) ⊎ ((a.rd.0 ≡ b.rd.0) × (a.session < b.session))) [
            | inl h ↦ inl h
            | inr h ↦ inr (h.0, last_from a.session b.session h.1)
          ],
        )
      ],
    )
  ]),
  (λ h. elim h as (λ _. is_better a b ≡ true) [
    | inl h ↦ less_to a.next_hop.0 b.next_hop.0 _ (inl h)
    | inr h ↦ less_to a.next_hop.0 b.next_hop.0 _ (inr (
      h.0,
      elim h.1 as (λ _. is_lt (ordering_then (nat_cmp a.label.0 b.label.0) (ordering_then (nat_cmp a.rd.0 b.rd.0) (ordering_then (nat_cmp a.session b.session) Equal))) ≡ true) [
        | inl h ↦ less_to a.label.0 b.label.0 _ (inl h)
        | inr h ↦ less_to a.label.0 b.label.0 _ (inr (
          h.0,
          elim h.1 as (λ _. is_lt (ordering_then (nat_cmp a.rd.0 b.rd.0) (ordering_then (nat_cmp a.session b.session) Equal)) ≡ true) [
            | inl h ↦ less_to a.rd.0 b.rd.0 _ (inl h)
            | inr h ↦ less_to a.rd.0 b.rd.0 _ (inr (h.0, less_to a.session b.session Equal (inl h.1)))
          ],
        ))
      ],
    ))
  ]),
)

-- ---- the imports of a place
one_if_from : (b : Bool) (n x : InstanceId) → Member n (cond b (x ∷ []) []) → (b ≡ true) × (n ≡ x)
one_if_from true n x (inl e) = (refl, sym e)
one_if_from true n x (inr m) = absurd m
one_if_from false n x m = absurd m

one_if_to : (b : Bool) (n x : InstanceId) → b ≡ true → n ≡ x → Member n (cond b (x ∷ []) [])
one_if_to true n x e is = inl (sym is)
one_if_to false n x e is = absurd (true≢false (sym e))

pub import_is : (feed : Map) (u : Use) (j : ℕ) (n : InstanceId) → Member u (uses feed) → j ≤ 15 → j ≤ u.services → Member n (imports feed (hop u j)) ↔ IsImportedAt u j n
import_is feed u j n held small within = (
  (λ m. elim (subst (Member n) (imports_hop feed u j held small within) m) as (λ _. IsImportedAt u j n) [
    | inl e ↦ inl (sym e)
    | inr m ↦ elim (in_either n (cond (j == 0) (u.left ∷ []) []) (cond (j == u.services) (u.right ∷ []) []) m) as (λ _. IsImportedAt u j n) [
      | inl l ↦ let q = one_if_from (j == 0) n u.left l in inr (inl (eqb-true j 0 q.0, q.1))
      | inr r ↦ let q = one_if_from (j == u.services) n u.right r in inr (inr (eqb-true j u.services q.0, q.1))
    ]
  ]),
  (λ h. subst (Member n) (sym (imports_hop feed u j held small within)) (elim h as (λ _. Member n (hop u j ∷ ends u j)) [
    | inl e ↦ inl (sym e)
    | inr h ↦ inr (elim h as (λ _. Member n (ends u j)) [
      | inl l ↦ in_left n (cond (j == 0) (u.left ∷ []) []) (cond (j == u.services) (u.right ∷ []) []) (one_if_to (j == 0) n u.left (eq-eqb j 0 l.0) l.1)
      | inr r ↦ in_right n (cond (j == 0) (u.left ∷ []) []) (cond (j == u.services) (u.right ∷ []) []) (one_if_to (j == u.services) n u.right (eq-eqb j u.services r.0) r.1)
    ])
  ])),
)
