-- When two claims are the same.
use Rattle.std.specs.Prelude.{◌==◌, ◌&&◌, Bool, List, length, Some}
use Rattle.std.specs.List.{list_all, zip}
use Rattle.policy_regions.specs.Joining.{same_decision, same_effect, same_range}
use Rattle.policy_regions.specs.declared.region.Claim.{Claim}
use Rattle.policy_regions.specs.declared.region.Region.{Region}

abbrev pub same_region : Region → Region → Bool
same_region r s =
    same_range r.protocols s.protocols
    && (same_range r.source_ports s.source_ports && same_range r.destination_ports s.destination_ports)

abbrev pub same_claim : Claim → Claim → Bool
same_claim c d =
    same_region c.region d.region
    && (same_decision (Some c.decision) (Some d.decision) && same_effect c.effect d.effect)

-- claims are the same, one by one
abbrev pub same_claims : List Claim → List Claim → Bool
same_claims cs ds = (length cs == length ds) && list_all (λ p. same_claim p.0 p.1) (zip cs ds)
