-- What is found in a list that has one thing to find.
use Rattle.std.proofs.Common.{◌≡◌, ◌≢◌, IfSome, get_or, ◌⊎◌, inl, inr, ◌||◌, ℕ, Bool, true, false, cond, leb, List, [], ◌∷◌, Option, Some, None, map, find, refl, sym, ap, ◌∙◌, arith}
use Rattle.std.specs.List.{All, AllPairs, Contains, list_any}
use Rattle.std.proofs.lemmas.List.Elements.{All-contains, Contains-get_or}
use Rattle.ov_types.specs.First.{first_of}
use Rattle.ov_types.specs.Prefix.{Block, contains}
use Rattle.ov_types.specs.Routing.{longer, longest}
use Rattle.ov_types.proofs.FirstLemmas.{pairs_head, pairs_tail, contains_here, contains_later, contains_cases, found_is, first_of_none, of_first, answered}
use Rattle.reach_plain.proofs.PolicyRules.Lists.{is_mapped}

pub nothing_in : {A : Type 0} (P : Type 0) (x : A) → Contains [] x → P
nothing_in P x h = absurd (omega (arith, h.1))

-- ---- items that a key tells apart

pub one_by_key : {A B : Type 0} (f : A → B) (xs : List A) → AllPairs (λ a b. a ≢ b) (map f xs) → (x y : A) → Contains xs x → Contains xs y → f x ≡ f y → x ≡ y
one_by_key f [] apart x y in_x in_y e = nothing_in _ x in_x
one_by_key {A} {B} f (z ∷ zs) apart x y in_x in_y e =
    let R : B → B → Type 0 = λ a b. a ≢ b in
    let heads : All (R (f z)) (map f zs) = pairs_head R (f z) (map f zs) apart in
    elim (contains_cases z zs x in_x) [
      | inl x_here ↦ elim (contains_cases z zs y in_y) [
        | inl y_here ↦ sym x_here ∙ y_here
        | inr y_later ↦ absurd (All-contains (R (f z)) (map f zs) (f y) heads (is_mapped f zs y y_later) (ap f x_here ∙ e))
      ]
      | inr x_later ↦ elim (contains_cases z zs y in_y) [
        | inl y_here ↦ absurd (All-contains (R (f z)) (map f zs) (f x) heads (is_mapped f zs x x_later) (ap f y_here ∙ sym e))
        | inr y_later ↦ one_by_key f zs (pairs_tail R (f z) (map f zs) apart) x y x_later y_later e
      ]
    ]

-- ---- what is found where there is one thing to find

pub none_found : {A : Type 0} (p : A → Bool) (xs : List A) → ((y : A) → Contains xs y → p y ≡ true → ⊥) → find p xs ≡ None
none_found {A} p xs none =
    elim (find p xs) as (λ o. find p xs ≡ o → o ≡ None) [
      | None ↦ λ e. refl
      | Some y ↦ λ e. let f = found_is p xs y e in absurd (none y f.1 f.0)
    ] refl

pub only_answer : {A B : Type 0} (f : A → Option B) (xs : List A) (x : A) (y : B) → Contains xs x → f x ≡ Some y → ((z : A) (w : B) → Contains xs z → f z ≡ Some w → w ≡ y) → first_of f xs ≡ Some y
only_answer {A} {B} f xs x y inside gives only =
    elim (first_of f xs) as (λ o. first_of f xs ≡ o → o ≡ Some y) [
      | None ↦ λ e.
          let silent : f x ≡ None = All-contains (λ z. f z ≡ None) xs x ((first_of_none f xs).0 e) inside in
          let never : None ≡ Some y = sym silent ∙ gives in
          absurd cc
      | Some w ↦ λ e.
          let P : B → Type 0 = λ u. u ≡ y in
          ap Some (answered P (first_of f xs) (of_first P f xs (λ z h. elim (f z) as (λ o. f z ≡ o → IfSome o P) [ None ↦ λ n. tt | Some u ↦ λ s. only z u h s ] refl)) w e)
    ] refl

pub no_answer : {A B : Type 0} (f : A → Option B) (xs : List A) → ((z : A) → Contains xs z → f z ≡ None) → first_of f xs ≡ None
no_answer f xs none = (first_of_none f xs).1 (λ k d lt. none (get_or xs k d) (Contains-get_or xs k d lt))

-- a route that alone contains an address is the longest, and where there is none there is no longest

longest_one : {A : Type 0} (a : ℕ) (rs : List (Block × A)) (r : Block × A) → ((s : Block × A) → Contains rs s → contains s.0 a ≡ true → s ≡ r) → (longest a rs ≡ None) ⊎ (longest a rs ≡ Some r)
longest_one a [] r only = inl refl
longest_one {A} a (s ∷ rs) r only =
    let rest = longest_one a rs r (λ u h. only u (contains_later u s rs h)) in
    elim (contains s.0 a) as (λ b. contains s.0 a ≡ b → (cond b (longer s (longest a rs)) (longest a rs) ≡ None) ⊎ (cond b (longer s (longest a rs)) (longest a rs) ≡ Some r)) [
      | false ↦ λ e. rest
      | true ↦ λ e.
          let same : s ≡ r = only s (contains_here s rs) e in
          elim rest [
            | inl none ↦ inr (rw none (ap Some same))
            | inr some ↦ inr (rw some (elim (leb r.0.len s.0.len) as (λ b. cond b (Some s) (Some r) ≡ Some r) [ true ↦ ap Some same | false ↦ refl ]))
          ]
    ] refl

pub none_contains : {A : Type 0} (a : ℕ) (rs : List (Block × A)) → longest a rs ≡ None → (r : Block × A) → Contains rs r → contains r.0 a ≡ true → ⊥
none_contains a [] e r h hit = nothing_in _ r h
none_contains {A} a (s ∷ rs) e r h hit =
    let longer_some : (o : Option (Block × A)) → longer s o ≡ None → ⊥ =
    λ o. elim o as (λ o. longer s o ≡ None → ⊥) [ None ↦ λ e. cc | Some u ↦ λ e. elim (leb u.0.len s.0.len) as (λ b. cond b (Some s) (Some u) ≡ None → ⊥) [ true ↦ λ e. cc | false ↦ λ e. cc ] e ] in
    elim (contains s.0 a) as (λ b. contains s.0 a ≡ b → cond b (longer s (longest a rs)) (longest a rs) ≡ None → ⊥) [
      | true ↦ λ t n. longer_some (longest a rs) n
      | false ↦ λ f n. elim (contains_cases s rs r h) [
        | inl same ↦ let never : false ≡ true = sym f ∙ ap (λ (u : Block × A). contains u.0 a) same ∙ hit in cc
        | inr later ↦ none_contains a rs n r later hit
      ]
    ] refl e

pub only_longest : {A : Type 0} (a : ℕ) (rs : List (Block × A)) (r : Block × A) → Contains rs r → contains r.0 a ≡ true → ((s : Block × A) → Contains rs s → contains s.0 a ≡ true → s ≡ r) → longest a rs ≡ Some r
only_longest a rs r h hit only =
    elim (longest_one a rs r only) [
      | inl none ↦ absurd (none_contains a rs none r h hit)
      | inr some ↦ some
    ]

pub no_longest : {A : Type 0} (a : ℕ) (rs : List (Block × A)) → ((s : Block × A) → Contains rs s → contains s.0 a ≡ true → ⊥) → longest a rs ≡ None
no_longest a [] none = refl
no_longest {A} a (s ∷ rs) none =
    elim (contains s.0 a) as (λ b. contains s.0 a ≡ b → cond b (longer s (longest a rs)) (longest a rs) ≡ None) [
      | true ↦ λ t. absurd (none s (contains_here s rs) t)
      | false ↦ λ f. no_longest a rs (λ u h. none u (contains_later u s rs h))
    ] refl

-- ---- tests that some item passes

pub in_any : {A : Type 0} (p : A → Bool) (xs : List A) (x : A) → Contains xs x → p x ≡ true → list_any p xs ≡ true
in_any p [] x h e = nothing_in _ x h
in_any {A} p (y ∷ ys) x h e =
    elim (p y) as (λ b. p y ≡ b → (b || list_any p ys) ≡ true) [
      | true ↦ λ t. refl
      | false ↦ λ f. elim (contains_cases y ys x h) [
        | inl same ↦ let never : false ≡ true = sym f ∙ ap p same ∙ e in cc
        | inr later ↦ in_any p ys x later e
      ]
    ] refl

pub of_any : {A : Type 0} (p : A → Bool) (xs : List A) → list_any p xs ≡ true → (x : A) × Contains xs x × (p x ≡ true)
of_any p [] h = cc
of_any {A} p (y ∷ ys) h =
    elim (p y) as (λ b. p y ≡ b → (b || list_any p ys) ≡ true → (x : A) × Contains (y ∷ ys) x × (p x ≡ true)) [
      | true ↦ λ t k. (y, contains_here y ys, t)
      | false ↦ λ f k. let rest = of_any p ys k in (rest.0, contains_later rest.0 y ys rest.1, rest.2)
    ] refl h
