-- Relations of the past: two networks are related no more, and agents still forward between them.
use Rattle.std.specs.Prelude.{◌≡◌, ◌⊎◌, ℕ, List, [], ◌∷◌, codes}
use Rattle.ov_types.specs.declared.numbers.InstanceId.{InstanceId}
use Rattle.ov_types.specs.declared.numbers.PortNo.{PortNo}
use Rattle.ov_types.specs.declared.numbers.ServiceNo.{ServiceNo}
use Rattle.ov_types.specs.declared.packet.Outcome.TheVariants.{Delivered}
use Rattle.ov_types.specs.declared.packet.Packet.{Packet}
use Rattle.route_targets.specs.Forwarding.{forwarding}
use Rattle.config_types.specs.declared.config.Action.TheVariants.{Pass}
use Rattle.config_types.specs.declared.config.Config.{Config}
use Rattle.config_types.specs.declared.config.Direction.TheVariants.{BothWays}
use Rattle.config_types.specs.declared.config.End.TheVariants as End
use Rattle.config_types.specs.declared.config.Network.{Network as NetworkOf}
use Rattle.config_types.specs.declared.config.Protocol.TheVariants as Protocol
use Rattle.config_types.specs.declared.config.Rule.{Rule}
use Rattle.config_types.specs.declared.edit.Edit.{Edit}
use Rattle.config_types.specs.declared.edit.Edit.TheVariants.{Put}
use Rattle.config_types.specs.declared.edit.Object.TheVariants as Objects
use Rattle.schedule_script.specs.ConfigCheck.Checked.{Checked}
use Rattle.schedule_script.specs.Ties.{HasPort, HasRelated, Ties}
use Rattle.machine_model.specs.Events.{forwarders}
use Rattle.machine_model.specs.Network.{MachineState}
use Rattle.machine_laws.specs.Untied.{opening, port}

-- the two ports of a delivered packet are now in networks that are one, or that the present configuration relates
abbrev pub StaysAmongPresent : Ties → List Config → MachineState → Type 0
StaysAmongPresent t cs w =
    (p : Packet) (q : PortNo) (services : List ServiceNo) → forwarding (forwarders w) p ≡ Delivered q services
    → (m n : InstanceId) → HasPort w.setup.config p.source m → HasPort w.setup.config q n
    → (m ≡ n) ⊎ HasRelated w.setup.config m n

-- ---- two networks that a policy relates, where both attach it
abbrev pub web : List ℕ
web = codes "web"

abbrev pub passing : Rule
passing = record {
  direction = BothWays;
  source = End.Any;
  destination = End.Any;
  protocol = Protocol.Any;
  source_ports = record { lo = 0; hi = 65535 };
  destination_ports = record { lo = 0; hi = 65535 };
  action = Pass;
}

-- a network with the subnet of two addresses that begins there
abbrev pub network : List ℕ → ℕ → ℕ → List (List ℕ) → NetworkOf
network name number first policies = record {
  name = name;
  id = record { 0 = number };
  subnets = record { addr = first; len = 31 } ∷ [];
  policies = policies;
}

-- the first network attaches these policies
abbrev pub with_first_attaching : List (List ℕ) → Config
with_first_attaching policies = record {
  networks = network (codes "red") 1 0x0a00_0000 policies ∷ network (codes "blue") 2 0x0a00_0002 (web ∷ []) ∷ [];
  ports = port (codes "p1") 1 (codes "red") ∷ port (codes "p2") 2 (codes "blue") ∷ [];
  policies = record { name = web; sequence = 10; rules = passing ∷ [] } ∷ [];
  services = [];
  chains = [];
}

abbrev pub related : Checked
related = record { topology = opening.topology; config = with_first_attaching (web ∷ []) }

-- the first network attaches the policy no more
abbrev pub leave : Edit
leave = Put (Objects.Network (network (codes "red") 1 0x0a00_0000 []))
