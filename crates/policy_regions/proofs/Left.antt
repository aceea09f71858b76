-- What claims leave of regions holds the tuples that the regions hold and no claim does, and of each tuple a region says
-- what the first claim says that holds it.
use Rattle.std.proofs.Common.{◌≡◌, Bool, true, false, cond, IsTrue, List, [], ◌∷◌, None, Some, Option, flat_map, refl, sym, ap, ◌∙◌, subst, arith}
use Rattle.std.specs.List.{Contains}
use Rattle.ov_types.specs.First.{◌<|>◌, first_of}
use Rattle.ov_types.specs.declared.packet.Tuple.{Tuple}
use Rattle.ov_types.proofs.FirstLemmas.{contains_here, contains_later}
use Rattle.policy_regions.specs.Carved.{carve, left_after}
use Rattle.policy_regions.specs.Joined.{made_by}
use Rattle.policy_regions.specs.Parts.{IsTuple}
use Rattle.policy_regions.specs.Regions.{everything, holds, left_by}
use Rattle.policy_regions.specs.declared.region.Claim.{Claim}
use Rattle.policy_regions.specs.declared.region.DecidedRegion.{DecidedRegion}
use Rattle.policy_regions.specs.declared.region.Region.{Region}
use Rattle.policy_regions.proofs.Cuts.{marks}
use Rattle.policy_regions.proofs.Decided.{carved, claim_on, claimed, everything_holds, leaves, leaves_none, or_nothing, says_joined}
use Rattle.policy_regions.proofs.Said.{Said, said}

-- where no claim holds a tuple, as many regions hold it as before
pub still_marked : {A : Type 0} (x : A) (t : Tuple) (cs : List Claim) (left : List Region) → first_of (claim_on t) cs ≡ None
    → marks (λ r. holds r t) x (left_after cs left) ≡ marks (λ r. holds r t) x left
still_marked x t [] left h = refl
still_marked {A} x t (c ∷ cs) left h =
    elim (holds c.region t) as (λ b. holds c.region t ≡ b → (cond b (Some (claimed c)) None <|> first_of (claim_on t) cs) ≡ None
    → marks (λ r. holds r t) x (left_after cs (flat_map (left_by c.region) left)) ≡ marks (λ r. holds r t) x left) [
      | true ↦ λ e none. absurd cc
      | false ↦ λ e none. still_marked x t cs (flat_map (left_by c.region) left) none ∙ leaves t c x e left
    ] refl h

unmarked : {A : Type 0} (x : A) (t : Tuple) (cs : List Claim) (left : List Region) → marks (λ r. holds r t) x left ≡ []
    → marks (λ r. holds r t) x (left_after cs left) ≡ []
unmarked x t [] left h = h
unmarked {A} x t (c ∷ cs) left h =
    elim (holds c.region t) as (λ b. holds c.region t ≡ b → marks (λ r. holds r t) x (left_after cs (flat_map (left_by c.region) left)) ≡ []) [
      | true ↦ λ e. unmarked x t cs (flat_map (left_by c.region) left) (leaves_none t c x e left)
      | false ↦ λ e. unmarked x t cs (flat_map (left_by c.region) left) (leaves t c x e left ∙ h)
    ] refl

-- where a claim holds it, none does
pub no_longer_marked : {A : Type 0} (x : A) (t : Tuple) (cs : List Claim) (left : List Region) (said : Said) → first_of (claim_on t) cs ≡ Some said
    → marks (λ r. holds r t) x (left_after cs left) ≡ []
no_longer_marked x t [] left said h = absurd cc
no_longer_marked {A} x t (c ∷ cs) left said h =
    elim (holds c.region t) as (λ b. holds c.region t ≡ b → (cond b (Some (claimed c)) None <|> first_of (claim_on t) cs) ≡ Some said
    → marks (λ r. holds r t) x (left_after cs (flat_map (left_by c.region) left)) ≡ []) [
      | true ↦ λ e some. unmarked x t cs (flat_map (left_by c.region) left) (leaves_none t c x e left)
      | false ↦ λ e some. no_longer_marked x t cs (flat_map (left_by c.region) left) said some
    ] refl h

-- a region among others holds a tuple
pub record HoldsOne (t : Tuple) (rs : List Region) : Type 0 where
  pub region : Region
  pub stands : Contains rs region
  pub on : holds region t ≡ true

pub marked : {A : Type 0} (x y : A) (ys : List A) (t : Tuple) (rs : List Region) → marks (λ r. holds r t) x rs ≡ y ∷ ys → HoldsOne t rs
marked x y ys t [] h = absurd cc
marked {A} x y ys t (r ∷ rs) h =
    elim (holds r t) as (λ b. holds r t ≡ b → cond b (x ∷ marks (λ q. holds q t) x rs) (marks (λ q. holds q t) x rs) ≡ y ∷ ys → HoldsOne t (r ∷ rs)) [
      | true ↦ λ e some. record { region = r; stands = contains_here r rs; on = e }
      | false ↦ λ e some. let later = marked x y ys t rs some in record { region = later.region; stands = contains_later later.region r rs later.stands; on = later.on }
    ] refl h

-- a region among decided ones holds a tuple, and says this
pub record SaysOne (t : Tuple) (x : Said) (rs : List DecidedRegion) : Type 0 where
  pub region : DecidedRegion
  pub stands : Contains rs region
  pub on : holds region.region t ≡ true
  pub says : (region.decision, region.effect) ≡ x

head_of : {A : Type 0} (x y : A) (xs ys : List A) → x ∷ xs ≡ y ∷ ys → x ≡ y
head_of x y xs ys e = cc

saying : (t : Tuple) (x : Said) (ys : List Said) (rs : List DecidedRegion) → said t rs ≡ x ∷ ys → SaysOne t x rs
saying t x ys [] h = absurd cc
saying t x ys (r ∷ rs) h =
    elim (holds r.region t) as (λ b. holds r.region t ≡ b → cond b ((r.decision, r.effect) ∷ said t rs) (said t rs) ≡ x ∷ ys → SaysOne t x (r ∷ rs)) [
      | true ↦ λ e some. record { region = r; stands = contains_here r rs; on = e; says = head_of (r.decision, r.effect) x (said t rs) ys some }
      | false ↦ λ e some.
          let later = saying t x ys rs some in
          record { region = later.region; stands = contains_later later.region r rs later.stands; on = later.on; says = later.says }
    ] refl h

pub made_says : (t : Tuple) (cs : List Claim) → IsTuple t → SaysOne t (or_nothing (first_of (claim_on t) cs)) (made_by cs)
made_says t cs h =
    let x : Said = or_nothing (first_of (claim_on t) cs) in
    let left : List Region = everything ∷ [] in
    saying t x [] (made_by cs)
    (says_joined t x left (carve cs left) (carved t cs left) ∙ ap (λ (b : Bool). cond b (x ∷ []) []) (everything_holds t h))
