-- Packets between ports of two networks, and where two configurations deliver them otherwise.
use Rattle.std.specs.Prelude.{◌≡◌, ◌≢◌, ◌==◌, ℕ, IsTrue, List, Option, Some, None, if◌then◌else◌}
use Rattle.std.specs.List.{Contains}
use Rattle.ov_types.specs.declared.numbers.ServiceNo.{ServiceNo}
use Rattle.ov_types.specs.declared.packet.Outcome.{Outcome}
use Rattle.ov_types.specs.declared.packet.Outcome.TheVariants.{Delivered, Dropped}
use Rattle.ov_types.specs.declared.packet.Packet.{Packet}
use Rattle.config_types.specs.Form.{has_config_form}
use Rattle.config_types.specs.declared.config.Config.{Config}
use Rattle.config_types.specs.declared.config.Network.{Network}
use Rattle.config_types.specs.declared.config.Port.{Port}
use Rattle.config_types.specs.declared.topology.Topology.{Topology}
use Rattle.config_check.specs.Rules.{first_broken}
use Rattle.policy_regions.specs.Parts.{IsTuple}
use Rattle.reach_plain.specs.Outcomes.{Leaves}
use Rattle.reach_plain.specs.Reachability.{reachability}

-- the services that an outcome delivers a packet to the port of a number by, if it does
abbrev pub delivery : ℕ → Outcome → Option (List ServiceNo)
delivery number (Delivered port services) = if port.0 == number then Some services else None
delivery number (Dropped why) = None

-- the services that a configuration delivers a packet to the port of a number by, if it does
abbrev pub delivery_in : Config → Packet → ℕ → Option (List ServiceNo)
delivery_in c p number = delivery number (reachability c p)

-- in a valid configuration a packet leaves a port of one network, and has the address of a port of another, which has this
-- number
pub record GoesBetween (c : Config) (p : Packet) (a b : Network) (number : ℕ) : Type 0 where
  pub topology : Topology
  pub form : IsTrue (has_config_form c)
  pub valid : first_broken topology c ≡ None
  pub tuple : IsTuple p.tuple
  pub leaves : Leaves c p a
  pub stands : Contains c.networks b
  pub other : b.name ≢ a.name
  pub port : Port
  pub port_stands : Contains c.ports port
  pub port_network : port.network ≡ b.name
  pub port_address : port.address ≡ p.destination
  pub port_number : port.id.0 ≡ number
