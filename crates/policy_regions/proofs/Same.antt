-- Claims that are the same one by one are equal.
use Rattle.std.proofs.Common.{◌≡◌, ◌&&◌, eqb, Bool, true, length, List, [], ◌∷◌, refl, sym, Some, arith}
use Rattle.std.specs.List.{list_all, zip}
use Rattle.std.proofs.lemmas.Bool.{eqb-true}
use Rattle.ov_types.specs.declared.packet.Range16.{Range16}
use Rattle.policy_rules.specs.declared.matching.Decision.{Decision}
use Rattle.policy_regions.specs.Joining.{same_decision, same_effect, same_range}
use Rattle.policy_regions.specs.Sameness.{same_claim, same_claims, same_region}
use Rattle.policy_regions.specs.declared.region.Claim.{Claim}
use Rattle.policy_regions.specs.declared.region.Region.{Region}
use Rattle.policy_regions.proofs.Joins.{and_first, and_second, decision_same, effect_same}

range_is : (r s : Range16) → same_range r s ≡ true → r ≡ s
range_is r s h =
    let lo = eqb-true r.lo s.lo (and_first (eqb r.lo s.lo) (eqb r.hi s.hi) h) in
    let hi = eqb-true r.hi s.hi (and_second (eqb r.lo s.lo) (eqb r.hi s.hi) h) in
    λ i. record { lo = lo i; hi = hi i }

region_is : (r s : Region) → same_region r s ≡ true → r ≡ s
region_is r s h =
    let ports : Bool = same_range r.source_ports s.source_ports && same_range r.destination_ports s.destination_ports in
    let p = range_is r.protocols s.protocols (and_first (same_range r.protocols s.protocols) ports h) in
    let k = and_second (same_range r.protocols s.protocols) ports h in
    let a = range_is r.source_ports s.source_ports (and_first (same_range r.source_ports s.source_ports) (same_range r.destination_ports s.destination_ports) k) in
    let b = range_is r.destination_ports s.destination_ports (and_second (same_range r.source_ports s.source_ports) (same_range r.destination_ports s.destination_ports) k) in
    λ i. record { protocols = p i; source_ports = a i; destination_ports = b i }

some_of : (d e : Decision) → Some d ≡ Some e → d ≡ e
some_of d e h = cc

claim_is : (c d : Claim) → same_claim c d ≡ true → c ≡ d
claim_is c d h =
    let rest : Bool = same_decision (Some c.decision) (Some d.decision) && same_effect c.effect d.effect in
    let r = region_is c.region d.region (and_first (same_region c.region d.region) rest h) in
    let k = and_second (same_region c.region d.region) rest h in
    let a = some_of d.decision c.decision (decision_same (Some c.decision) (Some d.decision) (and_first (same_decision (Some c.decision) (Some d.decision)) (same_effect c.effect d.effect) k)) in
    let b = effect_same c.effect d.effect (and_second (same_decision (Some c.decision) (Some d.decision)) (same_effect c.effect d.effect) k) in
    λ i. record { region = r i; decision = sym a i; effect = sym b i }

each_is : (cs ds : List Claim) → length cs ≡ length ds → list_all (λ p. same_claim p.0 p.1) (zip cs ds) ≡ true → cs ≡ ds
each_is [] [] e h = refl
each_is [] (d ∷ ds) e h = absurd (omega (arith, e))
each_is (c ∷ cs) [] e h = absurd (omega (arith, e))
each_is (c ∷ cs) (d ∷ ds) e h =
    let first = claim_is c d (and_first (same_claim c d) (list_all (λ p. same_claim p.0 p.1) (zip cs ds)) h) in
    let rest = each_is cs ds (omega (arith, e)) (and_second (same_claim c d) (list_all (λ p. same_claim p.0 p.1) (zip cs ds)) h) in
    λ i. first i ∷ rest i

pub claims_are : (cs ds : List Claim) → same_claims cs ds ≡ true → cs ≡ ds
claims_are cs ds h =
    let all : Bool = list_all (λ p. same_claim p.0 p.1) (zip cs ds) in
    each_is cs ds (eqb-true (length cs) (length ds) (and_first (eqb (length cs) (length ds)) all h)) (and_second (eqb (length cs) (length ds)) all h)
