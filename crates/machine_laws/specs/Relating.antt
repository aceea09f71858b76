-- Which networks configurations so far related, said by the rules between them, and which of several broken ties is
-- named, in words that the definitions of ties do not use.
use Rattle.std.specs.Prelude.{◌≡◌, ◌≢◌, ◌⊎◌, ℕ, ◌<◌, List, slice_get, Some}
use Rattle.std.specs.List.{Contains}
use Rattle.ov_types.specs.declared.numbers.InstanceId.{InstanceId}
use Rattle.ov_types.specs.declared.numbers.PortNo.{PortNo}
use Rattle.ov_types.specs.declared.numbers.ServiceNo.{ServiceNo}
use Rattle.ov_types.specs.declared.packet.Outcome.TheVariants.{Delivered}
use Rattle.ov_types.specs.declared.packet.Packet.{Packet}
use Rattle.ov_types.specs.declared.prefix.Addr.{Addr}
use Rattle.route_targets.specs.Forwarding.{forwarding}
use Rattle.config_types.specs.declared.config.Action.TheVariants.{Through}
use Rattle.config_types.specs.declared.config.Config.{Config}
use Rattle.config_types.specs.declared.config.End.TheVariants.{Named}
use Rattle.config_types.specs.declared.config.Network.{Network}
use Rattle.config_types.specs.declared.config.Port.{Port}
use Rattle.config_types.specs.declared.topology.Node.{Node}
use Rattle.policy_rules.specs.Standing.{AreRelated}
use Rattle.policy_rules.specs.declared.numbered.NumberedRule.{NumberedRule}
use Rattle.schedule_script.specs.Ties.{Ties}
use Rattle.machine_model.specs.Events.{forwarders}
use Rattle.machine_model.specs.Network.{MachineState}
use Rattle.machine_laws.specs.Stood.{InSome}

-- ---- networks that are related
-- a configuration has a port of this number in a network of that number
pub record StandsIn (c : Config) (number : PortNo) (network : InstanceId) : Type 0 where
  pub port : Port
  pub home : Network
  pub has_port : Contains c.ports port
  pub has_home : Contains c.networks home
  pub home_of : port.network ≡ home.name
  pub number_is : port.id ≡ number
  pub network_is : home.id ≡ network

-- a configuration has two networks of these numbers, and a rule that lets packets through stands between them
pub record AreRelatedIn (c : Config) (a b : InstanceId) : Type 0 where
  pub first : Network
  pub second : Network
  pub has_first : Contains c.networks first
  pub has_second : Contains c.networks second
  pub related : AreRelated c first second
  pub first_is : first.id ≡ a
  pub second_is : second.id ≡ b

-- two ports stood in configurations so far, in networks that are one or that a configuration so far related
pub record StoodRelated (cs : List Config) (p q : PortNo) : Type 0 where
  pub from : InstanceId
  pub to : InstanceId
  pub source : InSome cs (λ c. StandsIn c p from)
  pub destination : InSome cs (λ c. StandsIn c q to)
  pub near : (from ≡ to) ⊎ InSome cs (λ c. AreRelatedIn c from to)

-- a packet that is delivered goes between such ports
abbrev pub DeliversAmongRelated : Ties → List Config → MachineState → Type 0
DeliversAmongRelated t cs w =
    (p : Packet) (q : PortNo) (services : List ServiceNo) → forwarding (forwarders w) p ≡ Delivered q services
    → StoodRelated cs p.source q

-- ---- the first of several broken ties
-- an item of a list breaks its tie, and none before it does
pub record IsFirstToBreak {A : Type 0} (Breaks : A → Type 0) (xs : List A) (x : A) : Type 0 where
  pub place : ℕ
  pub there : slice_get xs place ≡ Some x
  pub broken : Breaks x
  pub none_before : (k : ℕ) (y : A) → k < place → slice_get xs k ≡ Some y → ¬ Breaks y

-- a port is in another network than the tie of its number has
pub record LeavesItsNetwork (t : Ties) (c : Config) (p : Port) : Type 0 where
  pub tied : InstanceId
  pub home : Network
  pub has_tie : t.port p.id ≡ Some tied
  pub has_home : Contains c.networks home
  pub home_of : p.network ≡ home.name
  pub differ : tied ≢ home.id

-- a rule leads through a chain by this use number
abbrev pub LeadsBy : ℕ → NumberedRule → Type 0
LeadsBy number r = (chain : List ℕ) × (r.rule.action ≡ Through chain number)

-- a chain rule leads between other networks than the tie of its use number has
pub record LeavesItsNetworks (t : Ties) (c : Config) (r : NumberedRule) : Type 0 where
  pub number : ℕ
  pub leads : LeadsBy number r
  pub tied : InstanceId × InstanceId
  pub left : Network
  pub right : Network
  pub has_tie : t.chain_use number ≡ Some tied
  pub has_left : Contains c.networks left
  pub has_right : Contains c.networks right
  pub from : r.rule.source ≡ Named left.name
  pub to : r.rule.destination ≡ Named right.name
  pub differ : tied ≢ (left.id, right.id)

-- the name of a compute node is tied to another address, or its address to another name
abbrev pub LeavesItsAddress : Ties → Node → Type 0
LeavesItsAddress t n =
    ((a : Addr) × (t.address n.name ≡ Some a) × (a ≢ n.address))
    ⊎ ((m : List ℕ) × (t.name n.address ≡ Some m) × (m ≢ n.name))
