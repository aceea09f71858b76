-- The targets among extended communities.
use Rattle.std.proofs.Common.{◌≡◌, ◌==◌, ◌↔◌, nat_lt, ℕ, List, [], ◌∷◌, refl, ap, sym, ◌∙◌, subst, arith, inl, inr, ◌⊎◌, Bool, true, false, cond, IsTrue, Contains}
use Rattle.std.specs.List.{fold}
use Rattle.std.proofs.lemmas.List.Elements.{Contains-append_left, Contains-append_right, Contains-push, Contains-push_cases, Contains-append_cases}
use Rattle.std.proofs.lemmas.Bool.{eqb-true}
use Rattle.ov_types.specs.declared.targets.Target.{Target}
use Rattle.ov_types.specs.Targets.{is_target, with_target, IsAscending}
use Rattle.ov_types.proofs.Places.{IsAscending-with}
use Rattle.bgp_vpn.specs.Values.{with_community, communities, targets_among}

here : {X : Type 0} (x : X) (xs : List X) → Contains (x ∷ xs) x
here x xs = Contains-append_left (x ∷ []) xs x (Contains-push [] x)

later : {X : Type 0} (x t : X) (xs : List X) → Contains xs t → Contains (x ∷ xs) t
later x t xs h = Contains-append_right (x ∷ []) xs t h

nothing : {X : Type 0} (t : X) → Contains [] t → ⊥
nothing t h = let below = h.1 in omega arith

only : {X : Type 0} (x t : X) → Contains (x ∷ []) t → x ≡ t
only x t h = elim (Contains-push_cases [] x t h) [
  | inl none ↦ absurd (nothing t none)
  | inr same ↦ same
]

cons_cases : {X : Type 0} (x t : X) (xs : List X) → Contains (x ∷ xs) t → (x ≡ t) ⊎ Contains xs t
cons_cases x t xs h = elim (Contains-append_cases (x ∷ []) xs t h) [
  | inl first ↦ inl (only x t first)
  | inr others ↦ inr others
]

-- a target that is put in its place, one branch at a time
abbrev placed : Bool → Bool → Target → Target → List Target → List Target → List Target
placed below same x y ys rest = cond below (x ∷ y ∷ ys) (cond same (y ∷ ys) (y ∷ rest))

placed_cases : (below same : Bool) (x y t : Target) (ys rest : List Target) → (Contains rest t → (x ≡ t) ⊎ Contains ys t)
    → Contains (placed below same x y ys rest) t → (x ≡ t) ⊎ Contains (y ∷ ys) t
placed_cases true same x y t ys rest more h = cons_cases x t (y ∷ ys) h
placed_cases false true x y t ys rest more h = inr h
placed_cases false false x y t ys rest more h = elim (cons_cases y t rest h) [
  | inl first ↦ inr (subst (Contains (y ∷ ys)) first (here y ys))
  | inr others ↦ elim (more others) [
    | inl new ↦ inl new
    | inr old ↦ inr (later y t ys old)
  ]
]

with_cases : (x t : Target) (ts : List Target) → Contains (with_target x ts) t → (x ≡ t) ⊎ Contains ts t
with_cases x t [] h = cons_cases x t [] h
with_cases x t (y ∷ ys) h = placed_cases (nat_lt x.0 y.0) (x.0 == y.0) x y t ys (with_target x ys) (with_cases x t ys) h

abbrev target_of : ℕ → Target
target_of n = record { 0 = n }

placed_new : (below same : Bool) (x y : Target) (ys rest : List Target) → (x.0 == y.0) ≡ same → Contains rest x → Contains (placed below same x y ys rest) x
placed_new true same x y ys rest is more = here x (y ∷ ys)
placed_new false true x y ys rest is more = subst (Contains (y ∷ ys)) (ap target_of (sym (eqb-true x.0 y.0 is))) (here y ys)
placed_new false false x y ys rest is more = later y x rest more

with_new : (x : Target) (ts : List Target) → Contains (with_target x ts) x
with_new x [] = here x []
with_new x (y ∷ ys) = placed_new (nat_lt x.0 y.0) (x.0 == y.0) x y ys (with_target x ys) refl (with_new x ys)

placed_old : (below same : Bool) (x y t : Target) (ys rest : List Target) → Contains (y ∷ ys) t → (Contains ys t → Contains rest t) → Contains (placed below same x y ys rest) t
placed_old true same x y t ys rest h more = later x t (y ∷ ys) h
placed_old false true x y t ys rest h more = h
placed_old false false x y t ys rest h more = elim (cons_cases y t ys h) [
  | inl first ↦ subst (Contains (y ∷ rest)) first (here y rest)
  | inr others ↦ later y t rest (more others)
]

with_old : (x t : Target) (ts : List Target) → Contains ts t → Contains (with_target x ts) t
with_old x t [] h = absurd (nothing t h)
with_old x t (y ∷ ys) h = placed_old (nat_lt x.0 y.0) (x.0 == y.0) x y t ys (with_target x ys) h (with_old x t ys)

-- a community that may be a target
abbrev taken : Bool → ℕ → List Target → List Target
taken test c ts = cond test (with_target (target_of c) ts) ts

taken_cases : (test : Bool) (c : ℕ) (t : Target) (ts : List Target) → is_target c ≡ test → Contains (taken test c ts) t
    → Contains ts t ⊎ ((c ≡ t.0) × IsTrue (is_target t.0))
taken_cases false c t ts is h = inl h
taken_cases true c t ts is h = elim (with_cases (target_of c) t ts h) [
  | inr old ↦ inl old
  | inl new ↦
      let same : c ≡ t.0 = ap (λ (x : Target). x.0) new in
      inr (same, subst (λ (n : ℕ). IsTrue (is_target n)) same is)
]

taken_old : (test : Bool) (c : ℕ) (t : Target) (ts : List Target) → Contains ts t → Contains (taken test c ts) t
taken_old true c t ts h = with_old (target_of c) t ts h
taken_old false c t ts h = h

taken_new : (test : Bool) (c : ℕ) (ts : List Target) → test ≡ true → Contains (taken test c ts) (target_of c)
taken_new true c ts is = with_new (target_of c) ts
taken_new false c ts is = absurd cc

-- what is among the targets of communities, behind targets that are there
abbrev IsAmong : Target → List ℕ → Type 0
IsAmong t cs = Contains cs t.0 × IsTrue (is_target t.0)

found : (cs : List ℕ) (ts : List Target) (t : Target) → Contains (fold with_community ts cs) t → Contains ts t ⊎ IsAmong t cs
found [] ts t h = inl h
found (c ∷ cs) ts t h = elim (found cs (with_community ts c) t h) [
  | inr among ↦ inr (later c t.0 cs among.0, among.1)
  | inl held ↦ elim (taken_cases (is_target c) c t ts refl held) [
    | inl old ↦ inl old
    | inr new ↦ inr (subst (Contains (c ∷ cs)) new.0 (here c cs), new.1)
  ]
]

kept : (cs : List ℕ) (ts : List Target) (t : Target) → Contains ts t → Contains (fold with_community ts cs) t
kept [] ts t h = h
kept (c ∷ cs) ts t h = kept cs (with_community ts c) t (taken_old (is_target c) c t ts h)

put : (cs : List ℕ) (ts : List Target) (t : Target) → IsAmong t cs → Contains (fold with_community ts cs) t
put [] ts t h = absurd (nothing t.0 h.0)
put (c ∷ cs) ts t h = elim (cons_cases c t.0 cs h.0) [
  | inl first ↦
      let test : is_target c ≡ true = ap is_target first ∙ h.1 in
      let new : Contains (with_community ts c) t = subst (Contains (with_community ts c)) (ap target_of first) (taken_new (is_target c) c ts test) in
      kept cs (with_community ts c) t new
  | inr others ↦ put cs (with_community ts c) t (others, h.1)
]

pub each_target : (value : List ℕ) (t : Target) → Contains (targets_among value) t ↔ (Contains (communities value) t.0 × IsTrue (is_target t.0))
each_target value t = (
  λ h. elim (found (communities value) [] t h) [
    | inl none ↦ absurd (nothing t none)
    | inr among ↦ among
  ],
  λ h. put (communities value) [] t h,
)

taken_ascends : (test : Bool) (c : ℕ) (ts : List Target) → IsAscending ts → IsAscending (taken test c ts)
taken_ascends true c ts h = IsAscending-with (target_of c) ts h
taken_ascends false c ts h = h

ascends : (cs : List ℕ) (ts : List Target) → IsAscending ts → IsAscending (fold with_community ts cs)
ascends [] ts h = h
ascends (c ∷ cs) ts h = ascends cs (with_community ts c) (taken_ascends (is_target c) c ts h)

pub targets_ascend : (value : List ℕ) → IsAscending (targets_among value)
targets_ascend value = ascends (communities value) [] tt
