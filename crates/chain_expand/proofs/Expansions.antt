-- What a hop gives, by what it names.
use Rattle.std.proofs.Common.{◌≡◌, ℕ, zero, suc, ◌<◌, ◌≤◌, ◌-◌, ◌≢◌, List, [], ◌∷◌, Some, None, refl, ap, ◌∙◌, sym, arith, sub-one, ◌++◌, length, take, get_or, length-append}
use Rattle.std.proofs.lemmas.List.{append-nil}
use Rattle.std.proofs.lemmas.List.Folds.{length-flat_map-take}
use Rattle.std.specs.List.{flat_map}
use Rattle.std.specs.Option.{option_map_or}
use Rattle.config_types.specs.declared.config.Config.{Config}
use Rattle.config_types.specs.declared.config.Service.{Service}
use Rattle.std.proofs.lemmas.Bool.{le-ltb}
use Rattle.ov_types.specs.First.{first_meeting}
use Rattle.chain_expand.specs.Expansion.{service_named, hops_of, services_within, same_number, numbers_or_twice, numbers_or_fault}

pub services_of_service : (n : ℕ) (c : Config) (hop : List ℕ) (s : Service) → service_named c hop ≡ Some s → services_within n c hop ≡ s ∷ []
unfolding services_within
services_of_service zero c hop s e = ap (λ o. option_map_or (λ s. s ∷ []) o []) e
services_of_service (suc n) c hop s e = ap (λ o. option_map_or (λ s. s ∷ []) o (flat_map (services_within n c) (hops_of c hop))) e

pub services_of_nothing : (n : ℕ) (c : Config) (hop : List ℕ) → service_named c hop ≡ None → n ≡ 0 → services_within n c hop ≡ []
unfolding services_within
services_of_nothing zero c hop e z = ap (λ o. option_map_or (λ s. s ∷ []) o []) e
services_of_nothing (suc n) c hop e z = absurd cc

pub services_of_chain : (n : ℕ) (c : Config) (hop : List ℕ) → service_named c hop ≡ None → n ≢ 0 → services_within n c hop ≡ flat_map (services_within (n - 1) c) (hops_of c hop)
unfolding services_within
services_of_chain zero c hop e h = absurd (h refl)
services_of_chain (suc n) c hop e h =
    rw sub-one
    (ap (λ o. option_map_or (λ s. s ∷ []) o (flat_map (services_within n c) (hops_of c hop))) e)

-- a hop that names nothing, or a chain too deep, adds nothing
pub nothing_more : (before : List Service) (n : ℕ) (c : Config) (hop : List ℕ) → service_named c hop ≡ None → n ≡ 0 → before ≡ before ++ services_within n c hop
nothing_more before n c hop e z = sym (ap (λ ss. before ++ ss) (services_of_nothing n c hop e z) ∙ append-nil before)

pub ruleset within = (services_of_service, nothing_more, services_of_chain)

-- what is too long after some hops is too long after all
pub too_long : {X : Type 0} (f : X → List Service) (before : List Service) (xs : List X) (i : ℕ) (x : X) → i < length xs → x ≡ get_or xs i x → 15 < length ((before ++ flat_map f (take i xs)) ++ f x) → 15 < length (before ++ flat_map f xs)
too_long f before xs i x lt is long =
    let parts = length-flat_map-take f xs i x lt in
    let same : length (f x) ≡ length (f (get_or xs i x)) = ap (λ y. length (f y)) is in
    omega (arith, parts, same, length-append (before ++ flat_map f (take i xs)) (f x), length-append before (flat_map f (take i xs)), length-append before (flat_map f xs))

-- at most 15 services are not too long
pub numbers_of_few : (name : List ℕ) (services : List Service) → length services ≤ 15 → numbers_or_fault name services ≡ numbers_or_twice name services (first_meeting same_number services)
numbers_of_few name services few = rw (le-ltb 15 (length services) few) refl
