-- Packets that no line of objects names, and the line of a difference that holds a packet.
use Rattle.std.specs.Prelude.{◌≡◌, ℕ, IsTrue, List}
use Rattle.std.specs.List.{Contains}
use Rattle.ov_types.specs.declared.packet.Packet.{Packet}
use Rattle.ov_types.specs.declared.packet.Tuple.{Tuple}
use Rattle.config_types.specs.declared.config.Config.{Config}
use Rattle.config_types.specs.declared.config.Network.{Network}
use Rattle.config_types.specs.declared.config.Port.{Port}
use Rattle.policy_regions.specs.Regions.{holds}
use Rattle.inspect_changes.specs.Deliveries.{GoesBetween}
use Rattle.inspect_changes.specs.Objects.{network_of, port_of}
use Rattle.inspect_changes.specs.declared.fate.Difference.{Difference}
use Rattle.inspect_changes.specs.declared.objects.Object.{Object}

-- nothing among what went is a packet's network, the network or the port of its destination, or the port that it leaves
pub record IsUnnamed (went : List Object) (c : Config) (p : Packet) (a b : Network) (number : ℕ) : Type 0 where
  pub from : ¬ Contains went (network_of a)
  pub to : ¬ Contains went (network_of b)
  pub source : (q : Port) → Contains c.ports q → q.id ≡ p.source → ¬ Contains went (port_of q)
  pub destination : (q : Port) → Contains c.ports q → q.id.0 ≡ number → ¬ Contains went (port_of q)

-- a packet goes between networks of these names, to the port of a number
pub record GoesOn (c : Config) (p : Packet) (a b : Network) (number : ℕ) : Type 0 where
  pub from : Network
  pub to : Network
  pub from_name : from.name ≡ a.name
  pub to_name : to.name ≡ b.name
  pub goes : GoesBetween c p from to number

-- a difference from one network to another holds the tuple of a packet, among the differences of two configurations
pub record IsOnLine (differences : List Difference) (from to : List ℕ) (t : Tuple) (x : Difference) : Type 0 where
  pub stands : Contains differences x
  pub source : x.from ≡ from
  pub destination : x.to ≡ to
  pub on : IsTrue (holds x.region t)
