-- What passes a test, and what is found.
use Rattle.std.specs.Prelude.{◌≡◌, List, [], ◌∷◌, ◌++◌, map, Bool, true, false, ◌&&◌, cond, Some, None}
use Rattle.std.specs.declared.option.Option.{Option}
use Rattle.std.specs.declared.cmp.Ordering.{Ordering}
use Rattle.std.specs.List.{filter, flat_map, AllByRecursion}
use Rattle.std.specs.Ordering.{eq_by_cmp}
use Rattle.std.specs.FinMap.{find}
use Rattle.std.proofs.Common.{refl, sym, ◌∙◌, ap, inl, inr}
use Rattle.node_model.specs.Members.{Member}

pub false_from : (b c : Bool) → (c ≡ true → b ≡ true) → b ≡ false → c ≡ false
false_from b true f e = sym (f refl) ∙ e
false_from b false f e = refl

pub all_from : {X : Type 0} (P : X → Type 0) (xs : List X) → ((x : X) → Member x xs → P x) → AllByRecursion P xs
all_from P [] h = tt
all_from P (x ∷ xs) h = (h x (inl refl), all_from P xs (λ y m. h y (inr m)))

module _ {X : Type 0} (p : X → Bool) where
  pub filter_append : (xs ys : List X) → filter p (xs ++ ys) ≡ filter p xs ++ filter p ys
  filter_append [] ys = refl
  filter_append (x ∷ xs) ys =
      elim (p x) as (λ b. cond b (x ∷ filter p (xs ++ ys)) (filter p (xs ++ ys)) ≡ cond b (x ∷ filter p xs) (filter p xs) ++ filter p ys) [
        | true ↦ ap (λ zs. x ∷ zs) (filter_append xs ys)
        | false ↦ filter_append xs ys
      ]

  pub filter_twice : (q : X → Bool) (xs : List X) → filter p (filter q xs) ≡ filter (λ x. q x && p x) xs
  filter_twice q [] = refl
  filter_twice q (x ∷ xs) =
      elim (q x) as (λ b. filter p (cond b (x ∷ filter q xs) (filter q xs)) ≡ cond (b && p x) (x ∷ filter (λ x. q x && p x) xs) (filter (λ x. q x && p x) xs)) [
        | true ↦ λ i. cond (p x) (x ∷ filter_twice q xs i) (filter_twice q xs i)
        | false ↦ filter_twice q xs
      ]

  pub filter_none : (xs : List X) → ((x : X) → Member x xs → p x ≡ false) → filter p xs ≡ []
  filter_none [] h = refl
  filter_none (x ∷ xs) h = ap (λ b. cond b (x ∷ filter p xs) (filter p xs)) (h x (inl refl)) ∙ filter_none xs (λ y m. h y (inr m))

  pub filter_flat_map : {Y : Type 0} (f g : Y → List X) (ys : List Y) → ((y : Y) → Member y ys → filter p (f y) ≡ filter p (g y))
      → filter p (flat_map f ys) ≡ filter p (flat_map g ys)
  filter_flat_map f g [] h = refl
  filter_flat_map f g (y ∷ ys) h =
      filter_append (f y) (flat_map f ys) ∙ (λ i. h y (inl refl) i ++ filter_flat_map f g ys (λ z m. h z (inr m)) i)
      ∙ sym (filter_append (g y) (flat_map g ys))

pub flat_map_same : {X Y : Type 0} (f g : X → List Y) (xs : List X) → ((x : X) → Member x xs → f x ≡ g x) → flat_map f xs ≡ flat_map g xs
flat_map_same f g [] h = refl
flat_map_same f g (x ∷ xs) h = λ i. h x (inl refl) i ++ flat_map_same f g xs (λ y m. h y (inr m)) i

-- ---- what is found
abbrev first_of : {X : Type 0} → Option X → Option X → Option X
first_of None o = o
first_of (Some x) o = Some x

module _ {K V : Type 0} (R : K → K → Ordering) (k : K) where
  find_append : (es fs : List (K × V)) → find R k (es ++ fs) ≡ first_of (find R k es) (find R k fs)
  find_append [] fs = refl
  find_append (e ∷ es) fs = elim (eq_by_cmp R k e.0) as (λ b. cond b (Some e.1) (find R k (es ++ fs)) ≡ first_of (cond b (Some e.1) (find R k es)) (find R k fs)) [ true ↦ refl | false ↦ find_append es fs ]

  pub found_after : (es fs gs : List (K × V)) → find R k fs ≡ find R k gs → find R k (es ++ fs) ≡ find R k (es ++ gs)
  found_after es fs gs h = find_append es fs ∙ ap (first_of (find R k es)) h ∙ sym (find_append es gs)

  pub found_in_each : {X : Type 0} (f g : X → List (K × V)) (xs : List X) → ((x : X) → Member x xs → find R k (f x) ≡ find R k (g x))
      → find R k (flat_map f xs) ≡ find R k (flat_map g xs)
  found_in_each f g [] h = refl
  found_in_each f g (x ∷ xs) h =
      find_append (f x) (flat_map f xs) ∙ (λ i. first_of (h x (inl refl) i) (found_in_each f g xs (λ y m. h y (inr m)) i))
      ∙ sym (find_append (g x) (flat_map g xs))

  -- only entries of the key count
  pub found_among : {X : Type 0} (f : X → K × V) (xs : List X) → find R k (map f xs) ≡ find R k (map f (filter (λ x. eq_by_cmp R k (f x).0) xs))
  found_among f [] = refl
  found_among f (x ∷ xs) =
      let kept = filter (λ x. eq_by_cmp R k (f x).0) xs in
      elim (eq_by_cmp R k (f x).0) as (λ b. eq_by_cmp R k (f x).0 ≡ b → cond b (Some (f x).1) (find R k (map f xs)) ≡ find R k (map f (cond b (x ∷ kept) kept))) [
        | true ↦ λ e. sym (ap (λ b. cond b (Some (f x).1) (find R k (map f kept))) e)
        | false ↦ λ _. found_among f xs
      ] refl

  pub found_nowhere : (es : List (K × V)) → ((e : K × V) → Member e es → eq_by_cmp R k e.0 ≡ false) → find R k es ≡ None
  found_nowhere [] h = refl
  found_nowhere (e ∷ es) h = ap (λ b. cond b (Some e.1) (find R k es)) (h e (inl refl)) ∙ found_nowhere es (λ f m. h f (inr m))
