-- Without ties: a port number is moved to another network, and an agent still holds a route to it.
use Rattle.std.specs.Prelude.{◌≡◌, ℕ, ◌+◌, List, [], ◌∷◌, map, codes, is_some, if◌then◌else◌}
use Rattle.std.specs.declared.option.Option.{Option}
use Rattle.std.specs.declared.option.Option.TheVariants.{None, Some}
use Rattle.ov_types.specs.First.{same_name}
use Rattle.ov_types.specs.Prefix.{Block}
use Rattle.ov_types.specs.declared.packet.Packet.{Packet}
use Rattle.ov_types.specs.declared.rows.AgentRows.{AgentRows}
use Rattle.route_targets.specs.Forwarding.{Forwarder}
use Rattle.config_types.specs.declared.config.Config.{Config}
use Rattle.config_types.specs.declared.config.Network.{Network as NetworkOf}
use Rattle.config_types.specs.declared.config.Port.{Port}
use Rattle.config_types.specs.declared.edit.Edit.{Edit}
use Rattle.config_types.specs.declared.edit.Edit.TheVariants.{Put}
use Rattle.config_types.specs.declared.edit.Object.TheVariants as Objects
use Rattle.config_types.specs.declared.topology.Node.{Node}
use Rattle.schedule_script.specs.ConfigCheck.Checked.{Checked}
use Rattle.node_laws.specs.NodeModel.Agent as agent
use Rattle.machine_model.specs.Events.{MachineEvent, Edits, after, agent_rows, forwarders, next}
use Rattle.machine_model.specs.Moments.{ArePositive, EditIsValid, EditsAreValid}
use Rattle.machine_model.specs.Network.{MachineState, start}
use Rattle.machine_model.specs.Session.{Message}
use Rattle.machine_model.specs.Setup.{Move, Name, edited, moves, opening as setup_of}
use Rattle.machine_laws.specs.Headline.{IsOfForm, IsWritten}
use Rattle.machine_laws.specs.Running.{configs}

-- after any schedule, whatever ties its edits break: of the configurations so far, and of the network
abbrev pub AtMomentsWithout : (List Config → MachineState → Type 0) → Type 0
AtMomentsWithout P =
    (size : Name → Message → ℕ) → ArePositive size
    → (x : Checked) → IsWritten (setup_of x)
    → (es : List MachineEvent) → EditsAreValid size IsOfForm (start x) es
    → P (configs size (start x) es) (after size (start x) es)

-- the compute node that an edit moves, if it is accepted
abbrev pub moved_by : MachineState → Edit → Option Move
moved_by w d = if is_some (edited w.setup d) then moves d w.setup.topology else None

-- what agents forward by once a compute node is moved: that of this node by nothing, and each other by what it forwarded
-- by before
abbrev pub without_rows : AgentRows
without_rows = record { labels = []; acls = []; routes = [] }

abbrev pub forwards_then : MachineState → Name → Node → Forwarder
forwards_then w name n = record {
  address = n.address;
  rows = if same_name name n.name then without_rows else agent.rows (agent_rows w n.name);
}

-- an edit that moves no compute node changes nothing by itself that agents forward by, and one that moves a compute node
-- only what the agent of that node forwards by
abbrev pub MovesNothingYet : (Name → Message → ℕ) → MachineState → Type 0
MovesNothingYet size w =
    (d : Edit)
    → (moved_by w d ≡ None → forwarders (next size w (Edits d)) ≡ forwarders w)
    × ((m : Move) → moved_by w d ≡ Some m → EditIsValid IsOfForm w (Edits d)
    → forwarders (next size w (Edits d)) ≡ map (forwards_then w m.name) (next size w (Edits d)).setup.topology.nodes)

-- ---- two networks with the same subnet, which no policy relates, and two ports
abbrev pub subnet : Block
subnet = record { addr = 0x0a00_0000; len = 8 }

abbrev pub network : List ℕ → ℕ → NetworkOf
network name number = record { name = name; id = record { 0 = number }; subnets = subnet ∷ []; policies = [] }

abbrev pub port : List ℕ → ℕ → List ℕ → Port
port name number home = record {
  name = name;
  id = record { 0 = number };
  network = home;
  address = record { 0 = 0x0a00_0000 + number };
  node = codes "n1";
}

-- the second port in a network
abbrev pub with_second_in : List ℕ → Config
with_second_in home = record {
  networks = network (codes "red") 1 ∷ network (codes "blue") 2 ∷ [];
  ports = port (codes "p1") 1 (codes "red") ∷ port (codes "p2") 2 home ∷ [];
  policies = [];
  services = [];
  chains = [];
}

abbrev pub opening : Checked
opening = record {
  topology = record {
    asn = 64512;
    controllers = record { name = codes "c1"; address = record { 0 = 0xc000_0201 } } ∷ [];
    nodes = record { name = codes "n1"; address = record { 0 = 0xc000_0202 }; controllers = codes "c1" ∷ [] } ∷ [];
  };
  config = with_second_in (codes "red");
}

-- the second port moves
abbrev pub move : Edit
move = Put (Objects.Port (port (codes "p2") 2 (codes "blue")))

abbrev pub packet : Packet
packet = record {
  source = record { 0 = 1 };
  destination = record { 0 = 0x0a00_0002 };
  tuple = record { proto = 6; sport = 1000; dport = 80 };
}
