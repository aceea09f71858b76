-- Chains with no service.
use Rattle.std.proofs.Common.{◌≡◌, ℕ, zero, suc, ◌+◌, ◌-◌, ◌<◌, ◌≤◌, ◌≢◌, inl, inr, List, [], ◌∷◌, ◌++◌, length, get_or, set, replicate, Option, Some, None, refl, sym, ap, ◌∙◌, arith, subst, length-append}
use Rattle.std.specs.List.{flat_map}
use Rattle.std.specs.Option.{option_map_or}
use Rattle.std.proofs.lemmas.Bool.{cases_eq}
use Rattle.std.proofs.lemmas.List.{append-nil, get_or-set_same, get_or-set_other, nil_from_length, get_or-replicate}
use Rattle.config_types.specs.declared.config.Config.{Config}
use Rattle.config_types.specs.declared.config.Service.{Service}
use Rattle.chain_expand.specs.Expansion.{service_named, hops_of, services_within}
use Rattle.chain_expand.specs.Links.{hops_at, place_of}
use Rattle.chain_expand.specs.Room.{AreBarren}
use Rattle.chain_expand.proofs.Expansions.{services_of_chain}
use Rattle.chain_expand.proofs.Reached.{hops_of_none, hops_of_some}

none_of_parts : {X : Type 0} (xs ys : List X) → xs ++ ys ≡ [] → (xs ≡ []) × (ys ≡ [])
none_of_parts [] ys e = (refl, e)
none_of_parts (x ∷ xs) ys e = absurd cc

fewer : {X : Type 0} (f g : X → List Service) → ((x : X) → f x ≡ [] → g x ≡ []) → (xs : List X) → flat_map f xs ≡ [] → flat_map g xs ≡ []
fewer f g less [] e = refl
fewer f g less (x ∷ xs) e =
    let parts = none_of_parts (f x) (flat_map f xs) e in
    ap (λ ss. ss ++ flat_map g xs) (less x parts.0) ∙ fewer f g less xs parts.1

-- what has no service has none less deep
none_before : (n : ℕ) (c : Config) (hop : List ℕ) → services_within (suc n) c hop ≡ [] → services_within n c hop ≡ []
unfolding services_within
none_before zero c hop e = by (service_named c hop) e
  where
    by : (o : Option Service) → option_map_or (λ s. s ∷ []) o (flat_map (services_within zero c) (hops_of c hop)) ≡ [] → option_map_or (λ s. s ∷ []) o [] ≡ []
    by (Some s) e = absurd cc
    by None e = refl
none_before (suc n) c hop e = by (service_named c hop) (fewer (services_within (suc n) c) (services_within n c) (none_before n c) (hops_of c hop)) e
  where
    by : (o : Option Service) → (flat_map (services_within (suc n) c) (hops_of c hop) ≡ [] → flat_map (services_within n c) (hops_of c hop) ≡ []) → option_map_or (λ s. s ∷ []) o (flat_map (services_within (suc n) c) (hops_of c hop)) ≡ [] → option_map_or (λ s. s ∷ []) o (flat_map (services_within n c) (hops_of c hop)) ≡ []
    by (Some s) less e = absurd cc
    by None less e = less e

none_below : (k n : ℕ) (c : Config) (hops : List (List ℕ)) → flat_map (services_within (k + n) c) hops ≡ [] → flat_map (services_within n c) hops ≡ []
none_below zero n c hops e = subst (λ (m : ℕ). flat_map (services_within m c) hops ≡ []) (omega arith) e
none_below (suc k) n c hops e =
    let one : suc k + n ≡ suc (k + n) = omega arith in
    let e' : flat_map (services_within (suc (k + n)) c) hops ≡ [] = subst (λ (m : ℕ). flat_map (services_within m c) hops ≡ []) one e in
    none_below k n c hops (fewer (services_within (suc (k + n)) c) (services_within (k + n) c) (none_before (k + n) c) hops e')

pub barren_with : (c : Config) (depths : List ℕ) (place n : ℕ) → length depths ≡ 128 → place < 128 → AreBarren c depths → flat_map (services_within n c) (hops_at c place) ≡ [] → AreBarren c (set depths place (n + 1))
barren_with c depths place n size within barren none = λ p k lt below.
    elim (cases_eq p place) [
      | inl same ↦
          let inside : place < length depths = omega (arith, size, within) in
          let here : get_or (set depths place (n + 1)) p 0 ≡ n + 1 = ap (λ q. get_or (set depths place (n + 1)) q 0) same ∙ get_or-set_same depths place (n + 1) 0 inside in
          let le : k ≤ n = omega (arith, here, below) in
          let sum : n ≡ (n - k) + k = omega arith in
          let none' : flat_map (services_within ((n - k) + k) c) (hops_at c place) ≡ [] = subst (λ (m : ℕ). flat_map (services_within m c) (hops_at c place) ≡ []) sum none in
          ap (λ q. flat_map (services_within k c) (hops_at c q)) same ∙ none_below (n - k) k c (hops_at c place) none'
      | inr other ↦
          let ne : p ≢ place = other in
          let there : get_or (set depths place (n + 1)) p 0 ≡ get_or depths p 0 = get_or-set_other depths place p (n + 1) 0 ne in
          barren p k lt (omega (arith, there, below))
    ]

-- what adds nothing has no service
pub none_added : (before services : List Service) → length (before ++ services) ≡ length before → services ≡ []
none_added before services e = nil_from_length services (omega (arith, e, length-append before services))

pub adds_nothing : (before : List Service) (services : List Service) → services ≡ [] → before ≡ before ++ services
adds_nothing before services e = sym (ap (λ ss. before ++ ss) e ∙ append-nil before)

-- a hop by the place of its chain
pub services_of_no_place : (n : ℕ) (c : Config) (hop : List ℕ) → service_named c hop ≡ None → n ≢ 0 → place_of c hop ≡ None → services_within n c hop ≡ []
services_of_no_place n c hop none ne at = services_of_chain n c hop none ne ∙ ap (flat_map (services_within (n - 1) c)) (hops_of_none c hop at)

pub services_of_place : (n : ℕ) (c : Config) (hop : List ℕ) (place : ℕ) → service_named c hop ≡ None → n ≢ 0 → place_of c hop ≡ Some place → services_within n c hop ≡ flat_map (services_within (n - 1) c) (hops_at c place)
services_of_place n c hop place none ne at = services_of_chain n c hop none ne ∙ ap (flat_map (services_within (n - 1) c)) (hops_of_some c hop place at)

pub barren_first : (c : Config) → AreBarren c (replicate 128 0)
barren_first c = λ place depth lt below.
    let nothing : get_or (replicate 128 0) place 0 < 1 = rw (get_or-replicate {A = ℕ} 128 place 0 0 lt) (omega arith) in
    absurd (omega (arith, nothing, below))
