-- Lists of keys that grow.
use Rattle.std.specs.Prelude.{◌≡◌, ◌⊎◌, List, [], ◌∷◌, ◌++◌, map, Bool, true, false, cond, ◌||◌, ◌==◌, ℕ}
use Rattle.std.specs.declared.option.Option.{Option}
use Rattle.std.specs.declared.option.Option.TheVariants.{Some}
use Rattle.std.specs.declared.cmp.Ordering.{Ordering}
use Rattle.std.specs.List.{list_any}
use Rattle.std.specs.Ordering.{eq_by_cmp, is_eq}
use Rattle.std.specs.Cmp.{Equal-is, IsTotalOrder, tied_itself}
use Rattle.std.specs.FinMap.{IsAntisymmetric, find, get, get-from_entries, get-insert, insert}
use Rattle.std.proofs.Common.{refl, sym, ◌∙◌, ap, inl, inr, arith}
use Rattle.std.proofs.lemmas.Bool.{eqb-true, true≢false}
use Rattle.std.proofs.lemmas.Bool.Decides.{nat_tests}
use Rattle.std.proofs.lemmas.Option.{same_Some}
use Rattle.ov_types.specs.declared.prefix.Addr.{Addr}
use Rattle.ov_sync.specs.Keyed.{map_of}
use Rattle.vpn_tables.specs.NodeModel.Members.{Member}

or_none : (a b : Bool) → (a || b) ≡ false → (a ≡ false) × (b ≡ false)
or_none true b e = absurd (cc)
or_none false b e = (refl, e)

pub mapped : {X Y : Type 0} (f : X → Y) (x : X) (xs : List X) → Member x xs → Member (f x) (map f xs)
mapped f x [] n = n
mapped f x (y ∷ ys) (inl e) = inl (ap f e)
mapped f x (y ∷ ys) (inr n) = inr (mapped f x ys n)

pub unmapped : {X Y : Type 0} (f : X → Y) (y : Y) (xs : List X) → Member y (map f xs) → (x : X) × Member x xs × (f x ≡ y)
unmapped f y [] n = absurd n
unmapped f y (x ∷ xs) (inl e) = (x, inl refl, e)
unmapped f y (x ∷ xs) (inr n) = let u = unmapped f y xs n in (u.0, inr u.1, u.2)

pub last : {X : Type 0} (x : X) (xs : List X) → Member x (xs ++ x ∷ [])
last x [] = inl refl
last x (y ∷ ys) = inr (last x ys)

pub before_last : {X : Type 0} (x y : X) (xs : List X) → Member x xs → Member x (xs ++ y ∷ [])
before_last x y [] n = absurd n
before_last x y (z ∷ zs) (inl e) = inl e
before_last x y (z ∷ zs) (inr n) = inr (before_last x y zs n)

-- what is found at a key stands with it
module _ {K V : Type 0} (R : K → K → Ordering) (exact : IsAntisymmetric R) where
  pub found_entry : (es : List (K × V)) (k : K) (v : V) → find R k es ≡ Some v → Member (k, v) es
  found_entry [] k v f = cc
  found_entry (e ∷ es) k v f =
      elim (eq_by_cmp R k e.0) as (λ b. eq_by_cmp R k e.0 ≡ b → cond b (Some e.1) (find R k es) ≡ Some v → (e ≡ (k, v)) ⊎ Member (k, v) es) [
        | true ↦ λ t f. inl (λ i. (sym (exact k e.0 ((Equal-is (R k e.0)).0 t)) i, same_Some e.1 v f i))
        | false ↦ λ _ f. inr (found_entry es k v f)
      ] refl f

module _ {K V : Type 0} (R : K → K → Ordering) (o : IsTotalOrder R) (exact : IsAntisymmetric R) where
  found_of : (es : List (K × V)) (k : K) → Member k (map (λ e. e.0) es) → (v : V) × (find R k es ≡ Some v)
  found_of [] k n = absurd n
  found_of (e ∷ es) k n =
      elim (eq_by_cmp R k e.0) as (λ b. eq_by_cmp R k e.0 ≡ b → (v : V) × (cond b (Some e.1) (find R k es) ≡ Some v)) [
        | true ↦ λ _. (e.1, refl)
        | false ↦ λ t. elim n as (λ _. (v : V) × (find R k es ≡ Some v)) [
          | inl is ↦ absurd (unlike t is)
          | inr later ↦ found_of es k later
        ]
      ] refl
    where
      unlike : eq_by_cmp R k e.0 ≡ false → e.0 ≡ k → ⊥
      unlike t is =
          let same : eq_by_cmp R k e.0 ≡ true = ap is_eq (ap (R k) is ∙ tied_itself o k) in
          let no : true ≡ false = sym same ∙ t in cc

  of_found : (es : List (K × V)) (k : K) (v : V) → find R k es ≡ Some v → Member k (map (λ e. e.0) es)
  of_found [] k v f = cc
  of_found (e ∷ es) k v f =
      elim (eq_by_cmp R k e.0) as (λ b. eq_by_cmp R k e.0 ≡ b → cond b (Some e.1) (find R k es) ≡ Some v → (e.0 ≡ k) ⊎ Member k (map (λ e. e.0) es)) [
        | true ↦ λ t _. inl (sym (exact k e.0 ((Equal-is (R k e.0)).0 t)))
        | false ↦ λ _ f. inr (of_found es k v f)
      ] refl f

  -- a key that was put among those of a map
  module _ (es fs : List (K × V)) (k : K) (v : V) (put : map_of R fs ≡ insert (map_of R es) k v) where
    got : (q : K) → find R q fs ≡ cond (eq_by_cmp R q k) (Some v) (find R q es)
    got q =
        sym (get-from_entries o fs q) ∙ ap (λ m. get m q) put ∙ get-insert o (map_of R es) k v q
        ∙ ap (λ (x : Option V). cond (eq_by_cmp R q k) (Some v) x) (get-from_entries o es q)

    -- what is found at each key then
    pub put_is : (q : K) → get (map_of R fs) q ≡ cond (eq_by_cmp R q k) (Some v) (get (map_of R es) q)
    put_is q = ap (λ m. get m q) put ∙ get-insert o (map_of R es) k v q

    pub put_there : Member k (map (λ e. e.0) fs)
    put_there = of_found fs k v (got k ∙ ap (λ b. cond b (Some v) (find R k es)) (ap is_eq (tied_itself o k)))

    pub put_keeps : (q : K) → Member q (map (λ e. e.0) es) → Member q (map (λ e. e.0) fs)
    put_keeps q n =
        let f = found_of es q n in
        elim (eq_by_cmp R q k) as (λ b. eq_by_cmp R q k ≡ b → Member q (map (λ e. e.0) fs)) [
          | true ↦ λ t. of_found fs q v (got q ∙ ap (λ b. cond b (Some v) (find R q es)) t)
          | false ↦ λ t. of_found fs q f.0 (got q ∙ ap (λ b. cond b (Some v) (find R q es)) t ∙ f.1)
        ] refl

    pub put_from : (q : K) → Member q (map (λ e. e.0) fs) → Member q (map (λ e. e.0) es) ⊎ (q ≡ k)
    put_from q n =
        elim (eq_by_cmp R q k) as (λ b. eq_by_cmp R q k ≡ b → Member q (map (λ e. e.0) es) ⊎ (q ≡ k)) [
          | true ↦ λ t. inr (exact q k ((Equal-is (R q k)).0 t))
          | false ↦ λ t.
              let f = found_of fs q n in
              inl (of_found es q f.0 (sym (got q ∙ ap (λ b. cond b (Some v) (find R q es)) t) ∙ f.1))
        ] refl

-- an address that is not found is not there
abbrev pub same_number : Addr → Addr → Bool
same_number a b = a.0 == b.0

number_itself : (a b : Addr) → (a.0 == b.0) ≡ false → a ≡ b → ⊥
number_itself a b e is =
    let same : (a.0 == b.0) ≡ true = (let n : a.0 ≡ b.0 = ap (λ (x : Addr). x.0) is in grind (arith, nat_tests)) in
    let no : true ≡ false = sym same ∙ e in cc

pub not_found : (x : Addr) (xs : List Addr) → list_any (λ y. same_number y x) xs ≡ false → Member x xs → ⊥
not_found x [] none n = n
not_found x (y ∷ ys) none (inl e) = number_itself y x (or_none (same_number y x) (list_any (λ y. same_number y x) ys) none).0 e
not_found x (y ∷ ys) none (inr n) = not_found x ys (or_none (same_number y x) (list_any (λ y. same_number y x) ys) none).1 n

-- an address that is found is there
pub was_found : (x : Addr) (xs : List Addr) → list_any (λ y. same_number y x) xs ≡ true → Member x xs
was_found x [] found = absurd (true≢false (sym found))
was_found x (y ∷ ys) found =
    elim (same_number y x) as (λ b. same_number y x ≡ b → (b || list_any (λ y. same_number y x) ys) ≡ true → Member x (y ∷ ys)) [
      | true ↦ λ same _. inl (ap (λ (n : ℕ). record { 0 = n }) (eqb-true y.0 x.0 same))
      | false ↦ λ _ rest. inr (was_found x ys rest)
    ] refl found
