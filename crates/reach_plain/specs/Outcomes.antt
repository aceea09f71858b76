-- What becomes of a packet, as relations.
use Rattle.std.specs.Prelude.{◌≡◌, ◌≢◌, ◌⊎◌, ℕ, Bool, true, false, IsTrue, List, [], map, reverse, Some, None}
use Rattle.std.specs.List.{All, Any, Contains}
use Rattle.ov_types.specs.Prefix.{contains}
use Rattle.ov_types.specs.declared.numbers.PortNo.{PortNo}
use Rattle.ov_types.specs.declared.numbers.ServiceNo.{ServiceNo}
use Rattle.ov_types.specs.declared.packet.Outcome.{Outcome}
use Rattle.ov_types.specs.declared.packet.Outcome.TheVariants.{Delivered, Dropped}
use Rattle.ov_types.specs.declared.packet.Packet.{Packet}
use Rattle.ov_types.specs.declared.packet.RuleNo.{RuleNo}
use Rattle.ov_types.specs.declared.packet.Tuple.{Tuple}
use Rattle.ov_types.specs.declared.packet.Why.{Why}
use Rattle.ov_types.specs.declared.packet.Why.TheVariants.{NoSourcePort, NoDestination, NoRoute, Denied, NoLabel}
use Rattle.ov_types.specs.declared.packet.Why.TheVariants.{TtlExpired}
use Rattle.config_types.specs.declared.config.Action.{Action}
use Rattle.config_types.specs.declared.config.Action.TheVariants.{Pass, Deny, Through}
use Rattle.config_types.specs.declared.config.Config.{Config}
use Rattle.config_types.specs.declared.config.Network.{Network}
use Rattle.config_types.specs.declared.config.Port.{Port}
use Rattle.chain_expand.specs.Expansion.{expansion}
use Rattle.policy_rules.specs.Related.{rules_between}
use Rattle.policy_rules.specs.declared.matching.Match.{Match}
use Rattle.policy_rules.specs.Standing.{AreRelated}
use Rattle.policy_rules.specs.Taking.{MatchesNot, IsDeciding}

-- a packet leaves a network: a port of it has the packet's source number
pub record Leaves (c : Config) (p : Packet) (own : Network) : Type 0 where
  pub source : Port
  pub source_stands : Contains c.ports source
  pub source_number : source.id ≡ p.source
  pub own_stands : Contains c.networks own
  pub own_name : own.name ≡ source.network

-- a network is the one that an address is of, for packets from another: it is the other itself, or related to it, and
-- one of its subnets holds the address
pub record IsTowards (c : Config) (own target : Network) (address : ℕ) : Type 0 where
  pub stands : Contains c.networks target
  pub near : (target.name ≡ own.name) ⊎ AreRelated c own target
  pub holds : Any (λ s. IsTrue (contains s address)) target.subnets

-- a packet leaves one network, and its destination is of another
pub record Goes (c : Config) (p : Packet) (own target : Network) : Type 0 where
  pub leaves : Leaves c p own
  pub towards : IsTowards c own target p.destination.0

-- the numbers of a chain's services, in order
abbrev pub numbers_of : Config → List ℕ → List ServiceNo
numbers_of c chain = map (λ s. s.id) (expansion c chain)

-- what an action lets a packet through by: a pass rule by nothing, a chain rule by its chain, in order where the rule
-- is matched forwards, and reversed where mirrored
abbrev pub LeadsThrough : Config → Bool → Action → List ServiceNo → Type 0
LeadsThrough c mirrored Pass services = services ≡ []
LeadsThrough c mirrored Deny services = ⊥
LeadsThrough c false (Through chain use_no) services = services ≡ numbers_of c chain
LeadsThrough c true (Through chain use_no) services = services ≡ reverse (numbers_of c chain)

-- the rule that decides lets a packet through, by these services
pub record IsLetThrough (c : Config) (a b : Network) (t : Tuple) (services : List ServiceNo) : Type 0 where
  pub decider : Match
  pub decides : IsDeciding c a b t decider
  pub leads : LeadsThrough c decider.mirrored decider.rule.rule.action services

-- a packet from one network may enter another, by these services: inside one network no rule is asked
abbrev pub MayEnter : Config → Network → Network → Tuple → List ServiceNo → Type 0
MayEnter c own target t services =
    ((target.name ≡ own.name) × (services ≡ [])) ⊎ ((target.name ≢ own.name) × IsLetThrough c own target t services)

-- a packet may enter the network of its destination, and a port of that has the address
pub record IsDelivered (c : Config) (p : Packet) (number : PortNo) (services : List ServiceNo) : Type 0 where
  pub own : Network
  pub target : Network
  pub goes : Goes c p own target
  pub enters : MayEnter c own target p.tuple services
  pub arrival : Port
  pub arrival_stands : Contains c.ports arrival
  pub arrival_network : arrival.network ≡ target.name
  pub arrival_address : arrival.address ≡ p.destination
  pub arrival_number : arrival.id ≡ number

-- no port has a packet's source number
abbrev pub HasNoSourcePort : Config → Packet → Type 0
HasNoSourcePort c p = All (λ q. q.id ≢ p.source) c.ports

-- a packet leaves a network, and its destination is of none
pub record HasNoDestination (c : Config) (p : Packet) : Type 0 where
  pub own : Network
  pub leaves : Leaves c p own
  pub nowhere : (target : Network) → ¬ IsTowards c own target p.destination.0

-- a packet goes to another network, and a deny rule decides on it
pub record IsDeniedBy (c : Config) (p : Packet) (number : RuleNo) : Type 0 where
  pub own : Network
  pub target : Network
  pub goes : Goes c p own target
  pub leaves_own : target.name ≢ own.name
  pub decider : Match
  pub decides : IsDeciding c own target p.tuple decider
  pub denies : decider.rule.rule.action ≡ Deny
  pub denier : decider.rule.number ≡ number

-- a packet goes to another network, and no rule between the two matches it
pub record IsDeniedByNone (c : Config) (p : Packet) : Type 0 where
  pub own : Network
  pub target : Network
  pub goes : Goes c p own target
  pub leaves_own : target.name ≢ own.name
  pub unmatched : All (λ r. MatchesNot own target p.tuple r.rule) (rules_between c own target)

-- a packet may enter the network of its destination, and no port of that has the address
pub record HasNoRoute (c : Config) (p : Packet) : Type 0 where
  pub own : Network
  pub target : Network
  pub services : List ServiceNo
  pub goes : Goes c p own target
  pub enters : MayEnter c own target p.tuple services
  pub nowhere : All (λ q. ¬ ((q.network ≡ target.name) × (q.address ≡ p.destination))) c.ports

-- a packet is dropped for this reason: for want of a label, or of time, none is
abbrev pub IsDropped : Config → Packet → Why → Type 0
IsDropped c p NoSourcePort = HasNoSourcePort c p
IsDropped c p NoDestination = HasNoDestination c p
IsDropped c p (Denied (Some number)) = IsDeniedBy c p number
IsDropped c p (Denied None) = IsDeniedByNone c p
IsDropped c p NoRoute = HasNoRoute c p
IsDropped c p NoLabel = ⊥
IsDropped c p TtlExpired = ⊥

-- an outcome is what becomes of a packet
abbrev pub Becomes : Config → Packet → Outcome → Type 0
Becomes c p (Delivered number services) = IsDelivered c p number services
Becomes c p (Dropped why) = IsDropped c p why
