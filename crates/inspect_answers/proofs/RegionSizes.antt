-- The ranges of regions are of numbers of 16 bits.
use Rattle.std.proofs.Common.{◌≡◌, ℕ, zero, suc, ◌+◌, ◌-◌, ◌≤◌, ◌&&◌, leb, ltb, min, max, Bool, true, false, cond, List, [], ◌∷◌, ◌++◌, Option, Some, None, length, map, flat_map, refl, arith}
use Rattle.std.specs.Prelude.{⊤}
use Rattle.std.specs.Option.{option_map_or}
use Rattle.std.proofs.lemmas.Bool.{and_from, le-leb, leb-true, ltb-true}
use Rattle.ov_types.specs.First.{◌<|>◌}
use Rattle.ov_types.specs.declared.packet.Range16.{Range16}
use Rattle.config_types.specs.declared.config.Config.{Config}
use Rattle.config_types.specs.declared.config.Network.{Network}
use Rattle.policy_rules.specs.declared.matching.Decision.{Decision}
use Rattle.policy_regions.specs.Carved.{carve, carved_between, taken_by, undecided}
use Rattle.policy_regions.specs.Claims.{claims_between}
use Rattle.policy_regions.specs.Joined.{regions_between}
use Rattle.policy_regions.specs.Joining.{all_among, among, both_ranges, box_of, goes_on, joined, joined_within, joint, joint_box, same_range, say_the_same}
use Rattle.policy_regions.specs.Overlay.{compared, compared_with, overlay}
use Rattle.policy_regions.specs.Regions.{above, below, beside, beside_destination_ports, beside_protocols, beside_source_ports, common, common_range, everything, left_by, meets, outside}
use Rattle.policy_regions.specs.declared.overlays.Compared.{Compared}
use Rattle.policy_regions.specs.declared.region.Claim.{Claim}
use Rattle.policy_regions.specs.declared.region.DecidedRegion.{DecidedRegion}
use Rattle.policy_regions.specs.declared.region.Region.{Region}
use Rattle.inspect_json.specs.Sizes.{has_range_size, has_region_size, has_rule_size}
use Rattle.inspect_answers.proofs.OfEach.{Each, OfSome, each_append, each_flat, each_map, of_cond, of_either, of_mapped}

-- ranges

pub record IsSmallRange (r : Range16) : Type 0 where
  pub lo : r.lo ≤ 65535
  pub hi : r.hi ≤ 65535

pub record IsSmall (r : Region) : Type 0 where
  pub protocols : IsSmallRange r.protocols
  pub source_ports : IsSmallRange r.source_ports
  pub destination_ports : IsSmallRange r.destination_ports

greater : (a b k : ℕ) → a ≤ k → b ≤ k → max a b ≤ k
greater a b k p q = omega (arith, p, q)

lesser : (a b k : ℕ) → a ≤ k → min a b ≤ k
lesser a b k p = omega (arith, p)

one_less : (a k : ℕ) → a ≤ k → a - 1 ≤ k
one_less a k p = omega (arith, p)

one_more : (a b k : ℕ) → ltb a b ≡ true → b ≤ k → a + 1 ≤ k
one_more a b k e p = omega (arith, ltb-true a b e, p)

common_range_small : (r s : Range16) → IsSmallRange r → IsSmallRange s → IsSmallRange (common_range r s)
common_range_small r s h k = record { lo = greater r.lo s.lo 65535 h.lo k.lo; hi = lesser r.hi s.hi 65535 h.hi }

below_small : (r s : Range16) → IsSmallRange r → IsSmallRange s → Each IsSmallRange (below r s)
below_small r s h k =
    let low : Range16 = record { lo = r.lo; hi = s.lo - 1 } in
    let small : IsSmallRange low = record { lo = h.lo; hi = one_less s.lo 65535 k.lo } in
    elim (ltb r.lo s.lo) as (λ b. Each IsSmallRange (cond b (low ∷ []) [])) [ true ↦ (small, tt) | false ↦ tt ]

above_small : (r s : Range16) → IsSmallRange r → IsSmallRange s → Each IsSmallRange (above r s)
above_small r s h k =
    let high : Range16 = record { lo = s.hi + 1; hi = r.hi } in
    elim (ltb s.hi r.hi) as (λ b. ltb s.hi r.hi ≡ b → Each IsSmallRange (cond b (high ∷ []) [])) [
      | true ↦ λ e. (record { lo = one_more s.hi r.hi 65535 e h.hi; hi = h.hi }, tt)
      | false ↦ λ e. tt
    ] refl

beside_small : (r s : Range16) → IsSmallRange r → IsSmallRange s → Each IsSmallRange (beside r s)
beside_small r s h k = each_append IsSmallRange (below r s) (above r s) (below_small r s h k) (above_small r s h k)

-- regions

common_small : (r s : Region) → IsSmall r → IsSmall s → IsSmall (common r s)
common_small r s h k = record {
  protocols = common_range_small r.protocols s.protocols h.protocols k.protocols;
  source_ports = common_range_small r.source_ports s.source_ports h.source_ports k.source_ports;
  destination_ports = common_range_small r.destination_ports s.destination_ports h.destination_ports k.destination_ports;
}

pub everything_small : IsSmall everything
everything_small = record {
  protocols = record { lo = omega arith; hi = omega arith };
  source_ports = record { lo = omega arith; hi = omega arith };
  destination_ports = record { lo = omega arith; hi = omega arith };
}

outside_small : (r s : Region) → IsSmall r → IsSmall s → Each IsSmall (outside r s)
outside_small r s h k =
    let protocols = common_range_small r.protocols s.protocols h.protocols k.protocols in
    let source_ports = common_range_small r.source_ports s.source_ports h.source_ports k.source_ports in
    each_append IsSmall (beside_protocols r s) (beside_source_ports r s ++ beside_destination_ports r s)
    (each_map IsSmallRange IsSmall (λ (p : Range16). record { protocols = p; source_ports = r.source_ports; destination_ports = r.destination_ports })
    (λ p q. record { protocols = q; source_ports = h.source_ports; destination_ports = h.destination_ports })
    (beside r.protocols s.protocols) (beside_small r.protocols s.protocols h.protocols k.protocols))
    (each_append IsSmall (beside_source_ports r s) (beside_destination_ports r s)
    (each_map IsSmallRange IsSmall
    (λ (p : Range16). record { protocols = common_range r.protocols s.protocols; source_ports = p; destination_ports = r.destination_ports })
    (λ p q. record { protocols = protocols; source_ports = q; destination_ports = h.destination_ports })
    (beside r.source_ports s.source_ports) (beside_small r.source_ports s.source_ports h.source_ports k.source_ports))
    (each_map IsSmallRange IsSmall
    (λ (p : Range16). record {
      protocols = common_range r.protocols s.protocols;
      source_ports = common_range r.source_ports s.source_ports;
      destination_ports = p;
    })
    (λ p q. record { protocols = protocols; source_ports = source_ports; destination_ports = q })
    (beside r.destination_ports s.destination_ports) (beside_small r.destination_ports s.destination_ports h.destination_ports k.destination_ports)))

left_small : (s r : Region) → IsSmall s → IsSmall r → Each IsSmall (left_by s r)
left_small s r h k =
    elim (meets r s) as (λ b. Each IsSmall (cond b (outside r s) (r ∷ []))) [ true ↦ outside_small r s k h | false ↦ (k, tt) ]

both_small : (r s : Range16) → IsSmallRange r → IsSmallRange s → IsSmallRange (both_ranges r s)
both_small r s h k = record { lo = h.lo; hi = k.hi }

box_small : (r s : Region) → IsSmall r → IsSmall s → OfSome IsSmall (box_of r s)
box_small r s h k =
    let along_protocols : Bool =
    goes_on r.protocols s.protocols && (same_range r.source_ports s.source_ports && same_range r.destination_ports s.destination_ports) in
    let along_source_ports : Bool =
    goes_on r.source_ports s.source_ports && (same_range r.protocols s.protocols && same_range r.destination_ports s.destination_ports) in
    let along_destination_ports : Bool =
    goes_on r.destination_ports s.destination_ports && (same_range r.protocols s.protocols && same_range r.source_ports s.source_ports) in
    let by_protocols : Region = record {
      protocols = both_ranges r.protocols s.protocols;
      source_ports = r.source_ports;
      destination_ports = r.destination_ports;
    } in
    let by_source_ports : Region = record {
      protocols = r.protocols;
      source_ports = both_ranges r.source_ports s.source_ports;
      destination_ports = r.destination_ports;
    } in
    let by_destination_ports : Region = record {
      protocols = r.protocols;
      source_ports = r.source_ports;
      destination_ports = both_ranges r.destination_ports s.destination_ports;
    } in
    of_cond IsSmall along_protocols (Some by_protocols)
    (cond along_source_ports (Some by_source_ports) (cond along_destination_ports (Some by_destination_ports) None))
    (record {
      protocols = both_small r.protocols s.protocols h.protocols k.protocols;
      source_ports = h.source_ports;
      destination_ports = h.destination_ports;
    })
    (of_cond IsSmall along_source_ports (Some by_source_ports) (cond along_destination_ports (Some by_destination_ports) None)
    (record {
      protocols = h.protocols;
      source_ports = both_small r.source_ports s.source_ports h.source_ports k.source_ports;
      destination_ports = h.destination_ports;
    })
    (of_cond IsSmall along_destination_ports (Some by_destination_ports) None
    (record {
      protocols = h.protocols;
      source_ports = h.source_ports;
      destination_ports = both_small r.destination_ports s.destination_ports h.destination_ports k.destination_ports;
    }) tt))

-- regions on which a rule decides, or none

abbrev pub HasSmallRule : Option Decision → Type 0
HasSmallRule None = ⊤
HasSmallRule (Some d) = has_rule_size d.rule ≡ true

pub record IsSized (r : DecidedRegion) : Type 0 where
  pub small : IsSmall r.region
  pub rule : HasSmallRule r.decision

pub record IsSizedClaim (k : Claim) : Type 0 where
  pub small : IsSmall k.region
  pub rule : has_rule_size k.decision.rule ≡ true

joint_sized : (r s : DecidedRegion) → IsSized r → IsSized s → OfSome IsSized (joint r s)
joint_sized r s h k =
    of_mapped IsSmall IsSized (λ (b : Region). record { region = b; decision = r.decision; effect = r.effect })
    (λ b small. record { small = small; rule = h.rule }) (joint_box r s)
    (of_cond IsSmall (say_the_same r s) (box_of r.region s.region <|> box_of s.region r.region) None
    (of_either IsSmall (box_of r.region s.region) (box_of s.region r.region) (box_small r.region s.region h.small k.small)
    (box_small s.region r.region k.small h.small)) tt)

among_sized : (r : DecidedRegion) (list : List DecidedRegion) → IsSized r → Each IsSized list → Each IsSized (among r list)
among_sized r [] h k = (h, tt)
among_sized r (s ∷ ss) h k =
    elim (joint r s) as (λ o. OfSome IsSized o → Each IsSized (option_map_or (λ b. among b ss) o (s ∷ among r ss))) [
      | None ↦ λ q. (k.0, among_sized r ss h k.1)
      | Some b ↦ λ q. among_sized b ss q k.1
    ] (joint_sized r s h k.0)

all_among_sized : (done list : List DecidedRegion) → Each IsSized done → Each IsSized list → Each IsSized (all_among done list)
all_among_sized done [] h k = h
all_among_sized done (r ∷ rs) h k = all_among_sized (among r done) rs (among_sized r done k.0 h) k.1

within_sized : (n : ℕ) (list : List DecidedRegion) → Each IsSized list → Each IsSized (joined_within n list)
within_sized zero list h = h
within_sized (suc n) list h =
    elim (ltb (length (all_among [] list)) (length list)) as (λ b. Each IsSized (cond b (joined_within n (all_among [] list)) list)) [
      | true ↦ within_sized n (all_among [] list) (all_among_sized [] list tt h)
      | false ↦ h
    ]

joined_sized : (list : List DecidedRegion) → Each IsSized list → Each IsSized (joined list)
joined_sized list h = within_sized (length list) list h

taken_sized : (c : Claim) (r : Region) → IsSizedClaim c → IsSmall r → Each IsSized (taken_by c r)
taken_sized c r h k =
    let taken : DecidedRegion = record { region = common r c.region; decision = Some c.decision; effect = c.effect } in
    let sized : IsSized taken = record { small = common_small r c.region k h.small; rule = h.rule } in
    elim (meets r c.region) as (λ b. Each IsSized (cond b (taken ∷ []) [])) [ true ↦ (sized, tt) | false ↦ tt ]

carve_sized : (cs : List Claim) (left : List Region) → Each IsSizedClaim cs → Each IsSmall left → Each IsSized (carve cs left)
carve_sized [] left h k =
    joined_sized (map undecided left) (each_map IsSmall IsSized undecided (λ r small. record { small = small; rule = tt }) left k)
carve_sized (c ∷ cs) left h k =
    each_append IsSized (joined (flat_map (taken_by c) left)) (carve cs (flat_map (left_by c.region) left))
    (joined_sized (flat_map (taken_by c) left) (each_flat IsSmall IsSized (taken_by c) (λ r small. taken_sized c r h.0 small) left k))
    (carve_sized cs (flat_map (left_by c.region) left) h.1
    (each_flat IsSmall IsSmall (left_by c.region) (λ r small. left_small c.region r h.0.small small) left k))

pub between_sized : (c : Config) (a b : Network) → Each IsSizedClaim (claims_between c a b) → Each IsSized (regions_between c a b)
between_sized c a b h =
    joined_sized (carved_between c a b) (carve_sized (claims_between c a b) (everything ∷ []) h (everything_small, tt))

-- regions laid over one another

pub record IsSizedCompared (r : Compared) : Type 0 where
  pub small : IsSmall r.region
  pub before : HasSmallRule r.before
  pub after : HasSmallRule r.after

compared_sized : (r s : DecidedRegion) → IsSized r → IsSized s → Each IsSizedCompared (compared r s)
compared_sized r s h k =
    let both : Compared = record { region = common r.region s.region; before = r.decision; after = s.decision; was = r.effect; becomes = s.effect } in
    let sized : IsSizedCompared both = record { small = common_small r.region s.region h.small k.small; before = h.rule; after = k.rule } in
    elim (meets r.region s.region) as (λ b. Each IsSizedCompared (cond b (both ∷ []) [])) [ true ↦ (sized, tt) | false ↦ tt ]

pub overlay_sized : (rs ss : List DecidedRegion) → Each IsSized rs → Each IsSized ss → Each IsSizedCompared (overlay rs ss)
overlay_sized rs ss h k =
    each_flat IsSized IsSizedCompared (compared_with ss) (λ r q. each_flat IsSized IsSizedCompared (compared r) (λ s. compared_sized r s q) ss k) rs h

-- as tests

range_size : (r : Range16) → IsSmallRange r → has_range_size r ≡ true
range_size r h = and_from (leb r.lo 65535) (leb r.hi 65535) (le-leb r.lo 65535 h.lo) (le-leb r.hi 65535 h.hi)

pub region_size : (r : Region) → IsSmall r → has_region_size r ≡ true
region_size r h =
    and_from (has_range_size r.protocols && has_range_size r.source_ports) (has_range_size r.destination_ports)
    (and_from (has_range_size r.protocols) (has_range_size r.source_ports) (range_size r.protocols h.protocols) (range_size r.source_ports h.source_ports))
    (range_size r.destination_ports h.destination_ports)

at_most : (a b k : ℕ) → a ≤ b → b ≤ k → a ≤ k
at_most a b k p q = omega (arith, p, q)

pub small_range : (r : Range16) → leb r.lo r.hi ≡ true → leb r.hi 65535 ≡ true → IsSmallRange r
small_range r h k = record { lo = at_most r.lo r.hi 65535 (leb-true r.lo r.hi h) (leb-true r.hi 65535 k); hi = leb-true r.hi 65535 k }
