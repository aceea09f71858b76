-- What stood in a configuration so far, said with no word of ties.
use Rattle.std.specs.Prelude.{◌≡◌, ◌⊎◌, ℕ, IsTrue, List, Some}
use Rattle.ov_types.specs.declared.numbers.InstanceId.{InstanceId}
use Rattle.ov_types.specs.declared.numbers.PortNo.{PortNo}
use Rattle.ov_types.specs.declared.numbers.ServiceNo.{ServiceNo}
use Rattle.ov_types.specs.declared.packet.Outcome.TheVariants.{Delivered}
use Rattle.ov_types.specs.declared.packet.Packet.{Packet}
use Rattle.route_targets.specs.Forwarding.{forwarding}
use Rattle.config_types.specs.declared.config.Config.{Config}
use Rattle.schedule_script.specs.Ties.{HasPort, HasRelated, HasUse, Ties}
use Rattle.node_laws.specs.NodeModel.Members.{Member}
use Rattle.machine_model.specs.Events.{forwarders}
use Rattle.machine_model.specs.Network.{MachineState}

-- in one of these configurations
abbrev pub InSome : List Config → (Config → Type 0) → Type 0
InSome cs P = (c : Config) × Member c cs × P c

-- what is tied stood in a configuration so far
pub record ComeFrom (t : Ties) (cs : List Config) : Type 0 where
  pub port : (p : PortNo) (n : InstanceId) → t.port p ≡ Some n → InSome cs (λ c. HasPort c p n)
  pub chain_use : (number : ℕ) (pair : InstanceId × InstanceId) → t.chain_use number ≡ Some pair
      → InSome cs (λ c. HasUse c number pair)
  pub related : (a b : InstanceId) → IsTrue (t.was_related a b) → InSome cs (λ c. HasRelated c a b)

abbrev pub HasItsTies : Ties → List Config → MachineState → Type 0
HasItsTies t cs w = ComeFrom t cs

-- two ports stood in configurations so far, in networks that are one or that a configuration so far related
pub record WereJoined (cs : List Config) (p q : PortNo) : Type 0 where
  pub from : InstanceId
  pub to : InstanceId
  pub source : InSome cs (λ c. HasPort c p from)
  pub destination : InSome cs (λ c. HasPort c q to)
  pub near : (from ≡ to) ⊎ InSome cs (λ c. HasRelated c from to)

-- a packet that is delivered goes between such ports
abbrev pub DeliversToThoseJoined : Ties → List Config → MachineState → Type 0
DeliversToThoseJoined t cs w =
    (p : Packet) (q : PortNo) (services : List ServiceNo) → forwarding (forwarders w) p ≡ Delivered q services
    → WereJoined cs p.source q

-- whichever networks configurations so far had the two ports of a delivered packet in: they are one, or a configuration
-- so far related them
abbrev pub StaysAmong : List Config → MachineState → Type 0
StaysAmong cs w =
    (p : Packet) (q : PortNo) (services : List ServiceNo) → forwarding (forwarders w) p ≡ Delivered q services
    → (m n : InstanceId) → InSome cs (λ c. HasPort c p.source m) → InSome cs (λ c. HasPort c q n)
    → (m ≡ n) ⊎ InSome cs (λ c. HasRelated c m n)

abbrev pub IsStayingAmong : Ties → List Config → MachineState → Type 0
IsStayingAmong t cs w = StaysAmong cs w
