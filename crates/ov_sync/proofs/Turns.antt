-- What is left of a map that is gone through, with an entry in hand, and the turns of a walk.
use Rattle.std.proofs.Common.{◌≡◌, ◌++◌, Bool, true, false, cond, List, [], ◌∷◌, Option, Some, None, Bor, refl, sym, ap, ◌∙◌, append_assoc}
use Rattle.std.proofs.lemmas.List.{append-nil}
use Rattle.std.specs.declared.cmp.Ordering.{Ordering}
use Rattle.std.specs.declared.cmp.Ordering.TheVariants.{Less, Equal, Greater}
use Rattle.std.specs.Map.Iter.{TakesFirst, deref_pair}
use Rattle.ov_sync.specs.declared.Delta.{Delta}
use Rattle.ov_sync.specs.declared.Delta.TheVariants.{Put, Drop}
use Rattle.ov_sync.proofs.Walking.{walk}

abbrev pub entries_left : {K V : Type 0} → Option (Bor K × Bor V) → List (K × V) → List (K × V)
entries_left None rest = []
entries_left (Some e) rest = (e.0.now, e.1.now) ∷ rest

-- what was left is the entry that is taken and what is left after it
pub taken : {K V : Type 0} (r : Option (Bor K × Bor V)) (before after : List (K × V)) → TakesFirst deref_pair before r after → before ≡ entries_left r after
taken None before after h = h.0
taken (Some e) before after h = h

pub goes_on : {K V : Type 0} (cmp : K → K → Ordering) (same : V → V → Bool) (front more deltas : List (Delta K V)) (xs ys xs' ys' : List (K × V)) (total : List (Delta K V))
    → deltas ≡ front ++ more → walk cmp same xs ys ≡ more ++ walk cmp same xs' ys'
    → front ++ walk cmp same xs ys ≡ total → deltas ++ walk cmp same xs' ys' ≡ total
goes_on cmp same front more deltas xs ys xs' ys' total pushed step so_far =
    rw (pushed, append_assoc) (ap (λ ds. front ++ ds) (sym step) ∙ so_far)

module _ {K V : Type 0} (cmp : K → K → Ordering) (same : V → V → Bool) where
  -- the entry in hand stands before what is taken next
  in_hand : (old : Option (Bor K × Bor V)) (olds : List (K × V)) (x : Bor K × Bor V) (next : Option (Bor K × Bor V)) (after : List (K × V))
      → old ≡ Some x → TakesFirst deref_pair olds next after → entries_left old olds ≡ (x.0.now, x.1.now) ∷ entries_left next after
  in_hand old olds x next after e t =
      ap (λ (o : Option (Bor K × Bor V)). entries_left o olds) e ∙ ap (λ (r : List (K × V)). (x.0.now, x.1.now) ∷ r) (taken next olds after t)

  -- the entries that are left after the one in hand
  abbrev pub Turn : List (K × V) → List (K × V) → List (Delta K V) → List (K × V) → List (K × V) → Type 0
  Turn xs ys ds xs' ys' = walk cmp same xs ys ≡ ds ++ walk cmp same xs' ys'

  at_less : (x y : K × V) (xs ys : List (K × V)) → Less ≡ cmp x.0 y.0 → Turn (x ∷ xs) (y ∷ ys) (Drop x.0 ∷ []) xs (y ∷ ys)
  at_less x y xs ys h = rw (sym h) refl

  at_greater : (x y : K × V) (xs ys : List (K × V)) → Greater ≡ cmp x.0 y.0 → Turn (x ∷ xs) (y ∷ ys) (Put y.0 y.1 ∷ []) (x ∷ xs) ys
  at_greater x y xs ys h = rw (sym h) refl

  choice : (b : Bool) (d : Delta K V) (ds : List (Delta K V)) → cond b ds (d ∷ ds) ≡ cond b [] (d ∷ []) ++ ds
  choice true d ds = refl
  choice false d ds = refl

  at_equal : (x y : K × V) (xs ys : List (K × V)) → Equal ≡ cmp x.0 y.0 → Turn (x ∷ xs) (y ∷ ys) (cond (same x.1 y.1) [] (Put y.0 y.1 ∷ [])) xs ys
  at_equal x y xs ys h = rw (sym h) (choice (same x.1 y.1) (Put y.0 y.1) (walk cmp same xs ys))

  module _ (old new : Option (Bor K × Bor V)) (olds news : List (K × V)) where
    pub ended : (front whole total : List (Delta K V)) → old ≡ None → new ≡ None → front ++ walk cmp same (entries_left old olds) (entries_left new news) ≡ whole → total ≡ whole → front ≡ total
    ended front whole total e0 e1 so_far is =
        sym (append-nil front) ∙ (λ i. front ++ walk cmp same (entries_left (sym e0 i) olds) (entries_left (sym e1 i) news)) ∙ so_far ∙ sym is

    pub old_alone : (x : Bor K × Bor V) (next : Option (Bor K × Bor V)) (after : List (K × V)) → old ≡ Some x → new ≡ None → TakesFirst deref_pair olds next after
        → Turn (entries_left old olds) (entries_left new news) (Drop x.0.now ∷ []) (entries_left next after) (entries_left new news)
    old_alone x next after e0 e1 t =
        let none = ap (λ (o : Option (Bor K × Bor V)). entries_left o news) e1 in
        (λ i. walk cmp same (in_hand old olds x next after e0 t i) (none i))
        ∙ ap (λ (l : List (K × V)). Drop x.0.now ∷ walk cmp same (entries_left next after) l) (sym none)

    pub new_alone : (y : Bor K × Bor V) (next : Option (Bor K × Bor V)) (after : List (K × V)) → old ≡ None → new ≡ Some y → TakesFirst deref_pair news next after
        → Turn (entries_left old olds) (entries_left new news) (Put y.0.now y.1.now ∷ []) (entries_left old olds) (entries_left next after)
    new_alone y next after e0 e1 t =
        let none = ap (λ (o : Option (Bor K × Bor V)). entries_left o olds) e0 in
        (λ i. walk cmp same (none i) (in_hand new news y next after e1 t i))
        ∙ ap (λ (l : List (K × V)). Put y.0.now y.1.now ∷ walk cmp same l (entries_left next after)) (sym none)

    pub old_first : (x y : Bor K × Bor V) (next : Option (Bor K × Bor V)) (after : List (K × V)) → old ≡ Some x → new ≡ Some y → TakesFirst deref_pair olds next after → Less ≡ cmp x.0.now y.0.now
        → Turn (entries_left old olds) (entries_left new news) (Drop x.0.now ∷ []) (entries_left next after) (entries_left new news)
    old_first x y next after e0 e1 t h =
        let other = ap (λ (o : Option (Bor K × Bor V)). entries_left o news) e1 in
        (λ i. walk cmp same (in_hand old olds x next after e0 t i) (other i))
        ∙ at_less (x.0.now, x.1.now) (y.0.now, y.1.now) (entries_left next after) news h
        ∙ ap (λ (l : List (K × V)). Drop x.0.now ∷ walk cmp same (entries_left next after) l) (sym other)

    pub new_first : (x y : Bor K × Bor V) (next : Option (Bor K × Bor V)) (after : List (K × V)) → old ≡ Some x → new ≡ Some y → TakesFirst deref_pair news next after → Greater ≡ cmp x.0.now y.0.now
        → Turn (entries_left old olds) (entries_left new news) (Put y.0.now y.1.now ∷ []) (entries_left old olds) (entries_left next after)
    new_first x y next after e0 e1 t h =
        let other = ap (λ (o : Option (Bor K × Bor V)). entries_left o olds) e0 in
        (λ i. walk cmp same (other i) (in_hand new news y next after e1 t i))
        ∙ at_greater (x.0.now, x.1.now) (y.0.now, y.1.now) olds (entries_left next after) h
        ∙ ap (λ (l : List (K × V)). Put y.0.now y.1.now ∷ walk cmp same l (entries_left next after)) (sym other)

    pub both_first : (x y : Bor K × Bor V) (next : Option (Bor K × Bor V)) (after : List (K × V)) (next' : Option (Bor K × Bor V)) (after' : List (K × V))
        → old ≡ Some x → new ≡ Some y → TakesFirst deref_pair olds next after → TakesFirst deref_pair news next' after' → Equal ≡ cmp x.0.now y.0.now
        → Turn (entries_left old olds) (entries_left new news) (cond (same x.1.now y.1.now) [] (Put y.0.now y.1.now ∷ [])) (entries_left next after) (entries_left next' after')
    both_first x y next after next' after' e0 e1 t t' h =
        (λ i. walk cmp same (in_hand old olds x next after e0 t i) (in_hand new news y next' after' e1 t' i))
        ∙ at_equal (x.0.now, x.1.now) (y.0.now, y.1.now) (entries_left next after) (entries_left next' after') h
