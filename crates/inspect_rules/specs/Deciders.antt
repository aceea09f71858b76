-- Which rules decide packets.
use Rattle.std.specs.Prelude.{◌≡◌, ◌≢◌, ◌==◌, ◌&&◌, ◌||◌, ℕ, nat_le, Bool, false, not, List, [], ◌∷◌, ◌++◌, Option, Some, None}
use Rattle.std.specs.List.{Contains, list_any}
use Rattle.std.specs.BTreeSet.{BTreeSet, contains}
use Rattle.ov_types.specs.contracts.packet.RuleNoOrd.TheImpl as numbers
use Rattle.ov_types.specs.First.{same_name}
use Rattle.ov_types.specs.declared.packet.Range16.{Range16}
use Rattle.ov_types.specs.declared.packet.RuleNo.{RuleNo}
use Rattle.ov_types.specs.declared.packet.Tuple.{Tuple}
use Rattle.config_types.specs.declared.config.Config.{Config}
use Rattle.config_types.specs.declared.config.Network.{Network}
use Rattle.policy_rules.specs.declared.matching.Decision.{Decision}
use Rattle.policy_rules.specs.declared.matching.Match.{Match}
use Rattle.policy_rules.specs.Taking.{IsDeciding}
use Rattle.policy_regions.specs.Carved.{left_after}
use Rattle.policy_regions.specs.Joined.{regions_between}
use Rattle.policy_regions.specs.Parts.{IsTuple}
use Rattle.policy_regions.specs.declared.region.Claim.{Claim}
use Rattle.policy_regions.specs.declared.region.DecidedRegion.{DecidedRegion}
use Rattle.policy_regions.specs.declared.region.Region.{Region}

abbrev pub same_rule : RuleNo → RuleNo → Bool
same_rule m n = (m.sequence == n.sequence) && (m.position == n.position)

-- a range has a number that is no greater than the last
abbrev pub has_one_to : Range16 → ℕ → Bool
has_one_to r last = nat_le r.lo r.hi && nat_le r.lo last

-- a region holds the tuple of a packet
abbrev pub holds_some : Region → Bool
holds_some r = has_one_to r.protocols 255 && (has_one_to r.source_ports 65535 && has_one_to r.destination_ports 65535)

abbrev pub is_by : RuleNo → Option Decision → Bool
is_by number None = false
is_by number (Some d) = same_rule d.rule number

-- a region holds the tuple of a packet, and the rule of this number decides on it
abbrev pub is_decided_by : RuleNo → DecidedRegion → Bool
is_decided_by number r = holds_some r.region && is_by number r.decision

-- the rule of this number makes a claim to which claims before it leave the tuple of a packet
abbrev pub claim_decides : RuleNo → List Claim → Claim → Bool
claim_decides number before k =
    same_rule k.decision.rule number && list_any holds_some (left_after before (k.region ∷ []))

-- the rule of this number makes such a claim among some, each behind those before it
abbrev pub claims_decide : RuleNo → List Claim → List Claim → Bool
claims_decide number before [] = false
claims_decide number before (k ∷ ks) = claim_decides number before k || claims_decide number (before ++ k ∷ []) ks

-- the rule of this number decides on a packet from one network to another
abbrev pub decides_between : Config → RuleNo → Network → Network → Bool
decides_between c number a b = not (same_name a.name b.name) && list_any (is_decided_by number) (regions_between c a b)

abbrev pub decides_from : Config → RuleNo → Network → Bool
decides_from c number a = list_any (decides_between c number a) c.networks

-- the rule of this number decides on a packet
abbrev pub decides_some : Config → RuleNo → Bool
decides_some c number = list_any (decides_from c number) c.networks

-- the rule of this number decides on a packet from one network of a configuration to another
pub record DecidesSome (c : Config) (number : RuleNo) : Type 0 where
  pub from : Network
  pub to : Network
  pub from_stands : Contains c.networks from
  pub to_stands : Contains c.networks to
  pub differ : from.name ≢ to.name
  pub tuple : Tuple
  pub is_tuple : IsTuple tuple
  pub decider : Match
  pub decides : IsDeciding c from to tuple decider
  pub is : decider.rule.number ≡ number

-- a set has the rule of this number
abbrev pub has_rule : BTreeSet RuleNo → RuleNo → Bool
has_rule rules number = contains numbers.ghosts.cmp rules number
