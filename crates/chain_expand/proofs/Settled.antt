-- No way needs more steps than there are chains.
use Rattle.std.proofs.Common.{◌≡◌, ℕ, zero, suc, ◌+◌, ◌-◌, ◌<◌, ◌≤◌, ◌⊎◌, inl, inr, ◌&&◌, ◌||◌, Bool, true, false, cond, List, [], ◌∷◌, length, map, get_or, Option, Some, None, refl, sym, ap, ◌∙◌, arith, subst}
use Rattle.std.specs.List.{list_any}
use Rattle.std.proofs.lemmas.List.{get_or-map}
use Rattle.config_types.specs.declared.config.Config.{Config}
use Rattle.config_types.specs.declared.config.Chain.{Chain}
use Rattle.ov_types.specs.First.{same_name}
use Rattle.chain_expand.specs.Expansion.{names_chain, hops_of, leads_within, leads}
use Rattle.chain_expand.specs.Links.{place_of}
use Rattle.chain_expand.proofs.Reached.{leads_none, named_at, no_chain, list_any_same}

pub or_true : (a : Bool) {b : Bool} → b ≡ true → (a || b) ≡ true
or_true true h = refl
or_true false h = h

pub list_any_more_true : {X : Type 0} (p q : X → Bool) → ((x : X) → p x ≡ true → q x ≡ true) → (xs : List X) → list_any p xs ≡ true → list_any q xs ≡ true
list_any_more_true p q more [] e = e
list_any_more_true p q more (x ∷ xs) e =
    by (p x) refl (list_any_more_true p q more xs)
  where
    by : (b : Bool) → p x ≡ b → (list_any p xs ≡ true → list_any q xs ≡ true) → (q x || list_any q xs) ≡ true
    by true e' rest = ap (λ b. b || list_any q xs) (more x e')
    by false e' rest = or_true (q x) (rest (ap (λ b. b || list_any p xs) (sym e') ∙ e))

-- one hop on the way to a name
abbrev pub hop_on : ℕ → Config → List ℕ → List ℕ → Bool
hop_on n c to hop = names_chain c hop && (same_name hop to || leads_within n c hop to)

on_parts : (a b x y : Bool) → (x ≡ true → y ≡ true) → (a && (b || x)) ≡ true → (a && (b || y)) ≡ true
on_parts true true x y h e = refl
on_parts true false x y h e = h e
on_parts false b x y h e = e

pub leads_more : (n : ℕ) (c : Config) (from to : List ℕ) → leads_within n c from to ≡ true → leads_within (suc n) c from to ≡ true
unfolding leads_within
leads_more zero c from to e = absurd cc
leads_more (suc n) c from to e =
    list_any_more_true (hop_on n c to) (hop_on (suc n) c to) (λ hop. on_parts (names_chain c hop) (same_name hop to) _ _ (leads_more n c hop to)) (hops_of c from) e

-- a step more leads from no other name
abbrev IsStill : ℕ → Config → List ℕ → Type 0
IsStill n c to = (from : List ℕ) → leads_within (suc n) c from to ≡ leads_within n c from to

still_on : (n : ℕ) (c : Config) (to : List ℕ) → IsStill n c to → IsStill (suc n) c to
unfolding leads_within
still_on n c to still = λ from.
    list_any_same (hop_on (suc n) c to) (hop_on n c to) (λ hop. ap (λ b. names_chain c hop && (same_name hop to || b)) (still hop)) (hops_of c from)

still_later : (k n : ℕ) (c : Config) (to : List ℕ) → IsStill n c to → IsStill (k + n) c to
still_later zero n c to still = subst (λ (m : ℕ). IsStill m c to) (omega arith) still
still_later (suc k) n c to still = subst (λ (m : ℕ). IsStill m c to) (omega arith) (still_on (k + n) c to (still_later k n c to still))

same_later : (k n : ℕ) (c : Config) (from to : List ℕ) → IsStill n c to → leads_within (k + n) c from to ≡ leads_within n c from to
same_later zero n c from to still = ap (λ m. leads_within m c from to) (omega arith)
same_later (suc k) n c from to still =
    let more : suc k + n ≡ suc (k + n) = omega arith in
    ap (λ m. leads_within m c from to) more ∙ still_later k n c to still from ∙ same_later k n c from to still

-- the chains that lead to a name
from_chain : ℕ → Config → List ℕ → Chain → Bool
from_chain n c to d = leads_within n c d.name to

still_from_chains : (n : ℕ) (c : Config) (to : List ℕ) → map (from_chain (suc n) c to) c.chains ≡ map (from_chain n c to) c.chains → IsStill n c to
unfolding from_chain
still_from_chains n c to same = λ from. by from (place_of c from) refl
  where
    by : (from : List ℕ) (o : Option ℕ) → place_of c from ≡ o → leads_within (suc n) c from to ≡ leads_within n c from to
    by from None e = leads_none (suc n) c from to e ∙ sym (leads_none n c from to e)
    by from (Some p) e =
        let at = named_at c from p e in
        subst (λ (name : List ℕ). leads_within (suc n) c name to ≡ leads_within n c name to) at.1
        (sym (get_or-map (from_chain (suc n) c to) c.chains p no_chain false at.0)
        ∙ ap (λ bs. get_or bs p false) same
        ∙ get_or-map (from_chain n c to) c.chains p no_chain false at.0)

unfoldable pub counted : {X : Type 0} → (X → Bool) → List X → ℕ
counted p [] = 0
counted p (x ∷ xs) = cond (p x) (suc (counted p xs)) (counted p xs)

pub counted-le : {X : Type 0} (p : X → Bool) (xs : List X) → counted p xs ≤ length xs
unfolding counted
counted-le p [] = omega arith
counted-le p (x ∷ xs) = by (p x) (counted-le p xs)
  where
    by : (b : Bool) → counted p xs ≤ length xs → cond b (suc (counted p xs)) (counted p xs) ≤ suc (length xs)
    by true le = omega (arith, le)
    by false le = omega (arith, le)

-- how one test's count is below another's that passes more
pub more_counted : (m n : ℕ) (a b : Bool) → (a ≡ true → b ≡ true) → m ≤ n → cond a (suc m) m ≤ cond b (suc n) n
more_counted m n true true h le = omega (arith, le)
more_counted m n true false h le = let never : false ≡ true = h refl in absurd cc
more_counted m n false true h le = omega (arith, le)
more_counted m n false false h le = le

pub count_le : {X : Type 0} (p q : X → Bool) → ((x : X) → p x ≡ true → q x ≡ true) → (xs : List X) → counted p xs ≤ counted q xs
unfolding counted
count_le p q more [] = omega arith
count_le p q more (x ∷ xs) = more_counted (counted p xs) (counted q xs) (p x) (q x) (more x) (count_le p q more xs)

step_or_same : (m n : ℕ) (a b : Bool) (ps qs : List Bool) → (a ≡ true → b ≡ true) → m ≤ n → (m < n) ⊎ (qs ≡ ps) → (cond a (suc m) m < cond b (suc n) n) ⊎ ((b ∷ qs) ≡ (a ∷ ps))
step_or_same m n true true ps qs h le (inl lt) = inl (omega (arith, lt))
step_or_same m n true true ps qs h le (inr e) = inr (ap (λ bs. true ∷ bs) e)
step_or_same m n true false ps qs h le d = let never : false ≡ true = h refl in absurd cc
step_or_same m n false true ps qs h le d = inl (omega (arith, le))
step_or_same m n false false ps qs h le (inl lt) = inl lt
step_or_same m n false false ps qs h le (inr e) = inr (ap (λ bs. false ∷ bs) e)

count_or_same : {X : Type 0} (p q : X → Bool) → ((x : X) → p x ≡ true → q x ≡ true) → (xs : List X) → (counted p xs < counted q xs) ⊎ (map q xs ≡ map p xs)
unfolding counted
count_or_same p q more [] = inr refl
count_or_same p q more (x ∷ xs) = step_or_same (counted p xs) (counted q xs) (p x) (q x) (map p xs) (map q xs) (more x) (count_le p q more xs) (count_or_same p q more xs)

still_or_more : (n : ℕ) (c : Config) (to : List ℕ) → ((k : ℕ) × (k < n) × IsStill k c to) ⊎ (n ≤ counted (from_chain n c to) c.chains)
unfolding from_chain
still_or_more zero c to = inr (omega arith)
still_or_more (suc n) c to =
    elim (still_or_more n c to) [
      | inl found ↦ inl (found.0, let lt = found.1 in omega arith, found.2)
      | inr le ↦
          elim (count_or_same (from_chain n c to) (from_chain (suc n) c to) (λ d. leads_more n c d.name to) c.chains) [
            | inl lt ↦ inr (omega arith)
            | inr same ↦ inl (n, omega arith, still_from_chains n c to same)
          ]
    ]

-- no way needs more steps than there are chains
pub settled : (m : ℕ) (c : Config) (from to : List ℕ) → leads_within (m + length c.chains) c from to ≡ leads c from to
settled m c from to =
    let n : ℕ = length c.chains in
    elim (still_or_more (suc n) c to) [
      | inl found ↦
          let lt : found.0 < suc n = found.1 in
          let a : m + n ≡ (m + n - found.0) + found.0 = omega arith in
          let b : (n - found.0) + found.0 ≡ n = omega arith in
          ap (λ k. leads_within k c from to) a
          ∙ same_later (m + n - found.0) found.0 c from to found.2
          ∙ sym (same_later (n - found.0) found.0 c from to found.2)
          ∙ ap (λ k. leads_within k c from to) b
      | inr le ↦ absurd (omega (arith, counted-le (from_chain (suc n) c to) c.chains))
    ]
