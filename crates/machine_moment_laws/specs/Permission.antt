-- What configurations so far permitted, at every moment, settled or not: which packets they would have let from one
-- network into another, and through which services. All premises are of configurations alone.
use Rattle.std.specs.Prelude.{◌≡◌, ◌≢◌, ◌⊎◌, ◌≤◌, ℕ, IsTrue, List, [], ◌∷◌, length, map, ⊤}
use Rattle.std.specs.List.{Any, Contains}
use Rattle.ov_types.specs.Prefix.{contains}
use Rattle.ov_types.specs.declared.numbers.InstanceId.{InstanceId}
use Rattle.ov_types.specs.declared.numbers.PortNo.{PortNo}
use Rattle.ov_types.specs.declared.numbers.ServiceNo.{ServiceNo}
use Rattle.ov_types.specs.declared.packet.Outcome.{Outcome}
use Rattle.ov_types.specs.declared.packet.Outcome.TheVariants.{Delivered, Dropped}
use Rattle.ov_types.specs.declared.packet.Packet.{Packet}
use Rattle.ov_types.specs.declared.packet.Tuple.{Tuple}
use Rattle.ov_types.specs.declared.packet.Why.TheVariants.{TtlExpired}
use Rattle.ov_types.specs.declared.prefix.Addr.{Addr}
use Rattle.route_targets.specs.Forwarding.{forwarding}
use Rattle.config_types.specs.declared.config.Config.{Config}
use Rattle.config_types.specs.declared.config.Network.{Network}
use Rattle.config_types.specs.declared.config.Port.{Port}
use Rattle.reach_plain.specs.Outcomes.{Goes, IsLetThrough}
use Rattle.transform_model.specs.IsUse.{IsUse}
use Rattle.transform_model.specs.Uses.{ConfiguredUse}
use Rattle.node_laws.specs.NodeModel.Members.{Member}
use Rattle.machine_model.specs.Events.{forwarders}
use Rattle.machine_model.specs.Network.{MachineState}
use Rattle.machine_laws.specs.Relating.{AreRelatedIn, StandsIn}
use Rattle.machine_laws.specs.Stood.{InSome}

-- ---- what was permitted
-- a configuration permits a tuple from the network of one number to that of another: the rule that decides lets it
-- through, by these services
pub record Permits (c : Config) (from to : InstanceId) (t : Tuple) (services : List ServiceNo) : Type 0 where
  pub own : Network
  pub target : Network
  pub has_own : Contains c.networks own
  pub has_target : Contains c.networks target
  pub own_is : own.id ≡ from
  pub target_is : target.id ≡ to
  pub lets : IsLetThrough c own target t services

-- a packet stays in its network and visits no service, or a configuration so far permitted its tuple by these services
abbrev pub WasPermitted : List Config → InstanceId → InstanceId → Tuple → List ServiceNo → Type 0
WasPermitted cs from to t services =
    ((from ≡ to) × (services ≡ [])) ⊎ ((from ≢ to) × InSome cs (λ c. Permits c from to t services))

-- ---- premises
-- among a network and those that a configuration so far related to it, a subnet of no other than this one held the
-- address, in any configuration so far
abbrev pub LayInAlone : List Config → InstanceId → InstanceId → Addr → Type 0
LayInAlone cs from to address =
    (c : Config) (n : Network) → Member c cs → Contains c.networks n
    → (n.id ≡ from) ⊎ InSome cs (λ e. AreRelatedIn e from n.id)
    → Any (λ s. IsTrue (contains s address.0)) n.subnets → n.id ≡ to

-- a use of this number is in effect between two networks, in the one direction or the other, with these services
pub record IsUsedBetween (c : Config) (a b : InstanceId) (number : ℕ) (services : List ServiceNo) : Type 0 where
  pub in_effect : ConfiguredUse
  pub is_use : IsUse c in_effect
  pub number_is : in_effect.number ≡ number
  pub between : ((in_effect.left.id ≡ a) × (in_effect.right.id ≡ b)) ⊎ ((in_effect.left.id ≡ b) × (in_effect.right.id ≡ a))
  pub services_are : map (λ s. s.id) in_effect.services ≡ services

-- each use between two networks had one list of services in all configurations so far in which it was in effect
abbrev pub KeptServices : List Config → InstanceId → InstanceId → Type 0
KeptServices cs a b =
    (c e : Config) (number : ℕ) (ss ts : List ServiceNo) → Member c cs → Member e cs
    → IsUsedBetween c a b number ss → IsUsedBetween e a b number ts → ss ≡ ts

-- ---- what is promised of a packet and of what becomes of it
-- a fact, where a packet is delivered, of the port that it comes to and of the services that it visited
abbrev pub WhereDelivered : (PortNo → List ServiceNo → Type 0) → Outcome → Type 0
WhereDelivered Says (Delivered q services) = Says q services
WhereDelivered Says (Dropped why) = ⊤

-- a fact of the network that a packet's source port stood in, and of the one that its destination lay in, alone among
-- the first and those that were related to it
abbrev pub OfItsNetworks : List Config → Packet → (InstanceId → InstanceId → Type 0) → Type 0
OfItsNetworks cs p Says =
    (from to : InstanceId) → InSome cs (λ c. StandsIn c p.source from) → LayInAlone cs from to p.destination → Says from to

-- where a packet is delivered, its port stood in the second network, and some configuration so far permitted its tuple,
-- by some services
abbrev pub IsPermittedSomehow : List Config → Packet → Outcome → Type 0
IsPermittedSomehow cs p o =
    OfItsNetworks cs p (λ from to. WhereDelivered (λ q services. InSome cs (λ c. StandsIn c q to)
    × ((permitted : List ServiceNo) × WasPermitted cs from to p.tuple permitted)) o)

-- where a packet is delivered, some configuration so far permitted its tuple by just the services that it visited, in
-- order, where each use between the two networks kept its services
abbrev pub IsPermitted : List Config → Packet → Outcome → Type 0
IsPermitted cs p o =
    OfItsNetworks cs p (λ from to. KeptServices cs from to → WhereDelivered (λ q services. InSome cs (λ c. StandsIn c q to)
    × WasPermitted cs from to p.tuple services) o)

-- a packet visits at most 15 services, and so is never dropped for want of lookups
abbrev pub IsLedOn : List Config → Packet → Outcome → Type 0
IsLedOn cs p o =
    OfItsNetworks cs p (λ from to. (o ≢ Dropped TtlExpired) × WhereDelivered (λ q services. length services ≤ 15) o)

pub record PassesAsPermitted (cs : List Config) (p : Packet) (o : Outcome) : Type 0 where
  pub somehow : IsPermittedSomehow cs p o
  pub exactly : IsPermitted cs p o
  pub led_on : IsLedOn cs p o

-- a fact of each packet, at a moment
abbrev pub OfEachPacket : (List Config → Packet → Outcome → Type 0) → List Config → MachineState → Type 0
OfEachPacket Passes cs w = (p : Packet) → Passes cs p (forwarding (forwarders w) p)

-- ---- what a configuration permits by itself
-- a packet leaves the network of one number, and its destination is of that of another, where a port of this number has it
pub record HeadsTo (c : Config) (p : Packet) (from to : InstanceId) (q : PortNo) : Type 0 where
  pub own : Network
  pub target : Network
  pub own_is : own.id ≡ from
  pub target_is : target.id ≡ to
  pub goes : Goes c p own target
  pub arrival : Port
  pub has_arrival : Contains c.ports arrival
  pub arrival_network : arrival.network ≡ target.name
  pub arrival_address : arrival.address ≡ p.destination
  pub arrival_number : arrival.id ≡ q

-- a packet is permitted from one network into another by these services, and its destination lies in the second network
-- alone
pub record DeliversAsPermitted (c : Config) (p : Packet) (q : PortNo) (services : List ServiceNo) : Type 0 where
  pub from : InstanceId
  pub to : InstanceId
  pub heads : HeadsTo c p from to q
  pub alone : LayInAlone (c ∷ []) from to p.destination
  pub permitted : WasPermitted (c ∷ []) from to p.tuple services
