-- Regions that touch and say the same are one where they make one box.
use Rattle.std.specs.Prelude.{ℕ, zero, suc, ◌+◌, ◌==◌, ◌&&◌, nat_le, nat_lt, Bool, true, false, not, List, [], ◌∷◌, length}
use Rattle.std.specs.Prelude.{Option, Some, None, option_map, if◌then◌else◌}
use Rattle.std.specs.Option.{option_map_or}
use Rattle.ov_types.specs.First.{same_name, ◌<|>◌}
use Rattle.ov_types.specs.declared.packet.Range16.{Range16}
use Rattle.policy_rules.specs.declared.matching.Decision.{Decision}
use Rattle.policy_regions.specs.declared.region.Effect.{Effect}
use Rattle.policy_regions.specs.declared.region.Effect.TheVariants.{Passes, Drops, Leads}
use Rattle.policy_regions.specs.declared.region.Region.{Region}
use Rattle.policy_regions.specs.declared.region.DecidedRegion.{DecidedRegion}

abbrev pub agree : Bool → Bool → Bool
agree true b = b
agree false b = not b

-- two decisions are by the same rule, matched the same way, or both by no rule at all
abbrev pub same_decision : Option Decision → Option Decision → Bool
same_decision None None = true
same_decision None (Some e) = false
same_decision (Some d) None = false
same_decision (Some d) (Some e) =
    (d.rule.sequence == e.rule.sequence) && ((d.rule.position == e.rule.position) && agree d.mirrored e.mirrored)

abbrev pub same_effect : Effect → Effect → Bool
same_effect Passes Passes = true
same_effect Drops Drops = true
same_effect (Leads c) (Leads d) = same_name c d
same_effect _ _ = false

-- two regions say the same of their tuples
abbrev pub say_the_same : DecidedRegion → DecidedRegion → Bool
say_the_same r s = same_decision r.decision s.decision && same_effect r.effect s.effect

abbrev pub same_range : Range16 → Range16 → Bool
same_range r s = (r.lo == s.lo) && (r.hi == s.hi)

-- one range begins where another ends
abbrev pub goes_on : Range16 → Range16 → Bool
goes_on r s = (r.hi + 1 == s.lo) && (nat_le r.lo s.lo && nat_le r.hi s.hi)

-- both of two ranges of which the second goes on where the first ends
abbrev pub both_ranges : Range16 → Range16 → Range16
both_ranges r s = record { lo = r.lo; hi = s.hi }

-- the box of two regions of which the second goes on where the first ends, along one axis, where the other two are alike
abbrev pub box_of : Region → Region → Option Region
box_of r s =
    if goes_on r.protocols s.protocols && (same_range r.source_ports s.source_ports && same_range r.destination_ports s.destination_ports)
    then Some (record { protocols = both_ranges r.protocols s.protocols; source_ports = r.source_ports; destination_ports = r.destination_ports })
    else (if goes_on r.source_ports s.source_ports && (same_range r.protocols s.protocols && same_range r.destination_ports s.destination_ports)
    then Some (record { protocols = r.protocols; source_ports = both_ranges r.source_ports s.source_ports; destination_ports = r.destination_ports })
    else (if goes_on r.destination_ports s.destination_ports && (same_range r.protocols s.protocols && same_range r.source_ports s.source_ports)
    then Some (record { protocols = r.protocols; source_ports = r.source_ports; destination_ports = both_ranges r.destination_ports s.destination_ports })
    else None))

-- the box of two regions, whichever goes on where the other ends, where they say the same
abbrev pub joint_box : DecidedRegion → DecidedRegion → Option Region
joint_box r s = if say_the_same r s then (box_of r.region s.region <|> box_of s.region r.region) else None

-- two regions as one, where they say the same and make one box
abbrev pub joint : DecidedRegion → DecidedRegion → Option DecidedRegion
joint r s = option_map (λ b. record { region = b; decision = r.decision; effect = r.effect }) (joint_box r s)

-- a region among others: joined with those of them that it makes one box with, one after the other, and behind the rest
abbrev pub among : DecidedRegion → List DecidedRegion → List DecidedRegion
among r [] = r ∷ []
among r (s ∷ ss) = option_map_or (λ b. among b ss) (joint r s) (s ∷ among r ss)

-- regions among others, one after the other
abbrev pub all_among : List DecidedRegion → List DecidedRegion → List DecidedRegion
all_among done [] = done
all_among done (r ∷ rs) = all_among (among r done) rs

-- regions joined for as long as they become fewer, at most so many times
abbrev pub joined_within : ℕ → List DecidedRegion → List DecidedRegion
joined_within zero regions = regions
joined_within (suc n) regions =
    if nat_lt (length (all_among [] regions)) (length regions) then joined_within n (all_among [] regions) else regions

-- regions joined until no two touch, say the same and make one box
abbrev pub joined : List DecidedRegion → List DecidedRegion
joined regions = joined_within (length regions) regions
