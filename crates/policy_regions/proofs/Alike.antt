-- Regions that the same claims make, laid over one another: what both decide is one thing, and what a claim says or none.
use Rattle.std.proofs.Common.{◌≡◌, ℕ, ◌&&◌, leb, true, false, cond, IsTrue, List, [], ◌∷◌, refl, sym, ap, ◌∙◌, subst, get_or, arith}
use Rattle.std.specs.List.{All}
use Rattle.std.proofs.lemmas.Bool.Decides.{nat_tests}
use Rattle.std.proofs.lemmas.List.Elements.{All-cons, All-append}
use Rattle.ov_types.specs.First.{first_of}
use Rattle.ov_types.specs.declared.packet.Tuple.{Tuple}
use Rattle.policy_regions.specs.Joined.{made_by}
use Rattle.policy_regions.specs.Overlay.{compared, compared_with, overlay}
use Rattle.policy_regions.specs.Regions.{common, has_numbers, holds, meets}
use Rattle.policy_regions.specs.declared.region.Claim.{Claim}
use Rattle.policy_regions.specs.declared.region.DecidedRegion.{DecidedRegion}
use Rattle.policy_regions.specs.declared.region.Region.{Region}
use Rattle.policy_regions.specs.declared.overlays.Compared.{Compared}
use Rattle.policy_regions.proofs.Cuts.{parts}
use Rattle.policy_regions.proofs.Decided.{claim_on, claimed, first_said, nothing, one_said, or_nothing}
use Rattle.policy_regions.proofs.Overlaid.{all_compare, all_turn}
use Rattle.policy_regions.proofs.Said.{Said}

-- the tuple at the low ends of a region

abbrev corner : Region → Tuple
corner r = record { proto = r.protocols.lo; sport = r.source_ports.lo; dport = r.destination_ports.lo }

at_low_end : (lo hi : ℕ) → leb lo hi ≡ true → (leb lo lo && leb lo hi) ≡ true
at_low_end lo hi h = grind (arith, nat_tests)

abbrev HasCorner : Compared → Type 0
HasCorner q = IsTrue (holds q.region (corner q.region))

corner_held : (r s : Region) → meets r s ≡ true → IsTrue (holds (common r s) (corner (common r s)))
corner_held r s h =
    let c : Region = common r s in
    let p = parts (has_numbers c.protocols) (has_numbers c.source_ports) (has_numbers c.destination_ports) h in
    rw (at_low_end c.protocols.lo c.protocols.hi p.0, at_low_end c.source_ports.lo c.source_ports.hi p.1.0, at_low_end c.destination_ports.lo c.destination_ports.hi p.1.1) refl

compared_held : (r s : DecidedRegion) → All HasCorner (compared r s)
compared_held r s =
    let q : Compared = record { region = common r.region s.region; before = r.decision; after = s.decision; was = r.effect; becomes = s.effect } in
    elim (meets r.region s.region) as (λ b. meets r.region s.region ≡ b → All HasCorner (cond b (q ∷ []) [])) [
      | true ↦ λ e. All-cons HasCorner q [] (corner_held r.region s.region e) (λ i x lt. absurd (omega (arith, lt)))
      | false ↦ λ e. λ i x lt. absurd (omega (arith, lt))
    ] refl

with_held : (ss : List DecidedRegion) (r : DecidedRegion) → All HasCorner (compared_with ss r)
with_held [] r = λ i x lt. absurd (omega (arith, lt))
with_held (s ∷ ss) r = All-append HasCorner (compared r s) (compared_with ss r) (compared_held r s) (with_held ss r)

all_held : (rs ss : List DecidedRegion) → All HasCorner (overlay rs ss)
all_held [] ss = λ i x lt. absurd (omega (arith, lt))
all_held (r ∷ rs) ss = All-append HasCorner (compared_with ss r) (overlay rs ss) (with_held ss r) (all_held rs ss)

-- what is decided on a region before and after, and done there, is one thing
pub record StaysAs (P : Said → Type 0) (q : Compared) : Type 0 where
  pub decision : q.after ≡ q.before
  pub effect : q.becomes ≡ q.was
  pub said : P (q.before, q.was)

pub all_alike : (P : Said → Type 0) (cs : List Claim) → P nothing → All (λ c. P (claimed c)) cs → All (StaysAs P) (overlay (made_by cs) (made_by cs))
all_alike P cs h k = λ i q lt.
    let list : List Compared = overlay (made_by cs) (made_by cs) in
    let t : Tuple = corner (get_or list i q).region in
    let x : Said = or_nothing (first_of (claim_on t) cs) in
    let held : IsTrue (holds (get_or list i q).region t) = all_held (made_by cs) (made_by cs) i q lt in
    let decides : All (λ r. IsTrue (holds r.region t) → r.decision ≡ x.0) (made_by cs) = λ j r less holding. ap (λ (s : Said). s.0) (one_said t cs j r less holding) in
    let does : All (λ r. IsTrue (holds r.region t) → r.effect ≡ x.1) (made_by cs) = λ j r less holding. ap (λ (s : Said). s.1) (one_said t cs j r less holding) in
    let first = all_compare t x.0 x.0 (made_by cs) (made_by cs) decides decides i q lt held in
    let second = all_turn t x.1 x.1 (made_by cs) (made_by cs) does does i q lt held in
    record {
      decision = first.1 ∙ sym first.0;
      effect = second.1 ∙ sym second.0;
      said = subst P (λ j. (sym first.0 j, sym second.0 j)) (first_said P t cs h k);
    }
