-- What `constrain` writes.
use Rattle.std.specs.Prelude.{◌≡◌, true, ℕ, List, [], ◌∷◌, ◌++◌, map, if◌then◌else◌}
use Rattle.std.specs.List.{AllByRecursion, flat_map}
use Rattle.ov_types.specs.First.{same_name}
use Rattle.ov_types.specs.declared.rows.NodeId.{NodeId}
use Rattle.config_types.specs.declared.event.Event.{Event}
use Rattle.config_types.specs.declared.event.Event.TheVariants.{Settle}
use Rattle.config_types.specs.declared.topology.Topology.{Topology}
use Rattle.config_check.specs.Checked.{Checked}
use Rattle.node_model.specs.Maps.{Map}
use Rattle.node_model.specs.Wants.{wanted_by_peers}
use Rattle.machine_model.specs.Setup.{Name}
use Rattle.machine_model.specs.Network.{MachineState}
use Rattle.net_machine.specs.RunningNodes.Stands.{moment}
use Rattle.net_machine.specs.Looking.{held_at, is_control_node}
use Rattle.report.specs.Memberships.{asked_line, sent_line}
use Rattle.rt_constrain.specs.Asking.{asked}
use Rattle.rt_constrain.specs.Covering.{AreAsked}
use Rattle.rt_constrain.specs.Sharing.{share}
use Rattle.rt_constrain.specs.declared.sharing.Share.{Share}
use Rattle.top_call.specs.declared.asking.Asking.{Asking}

-- some nodes are control nodes of a topology
abbrev pub AreControlNodes : Topology → List NodeId → Type 0
AreControlNodes t cs = AllByRecursion (λ (c : NodeId). is_control_node t c.name ≡ true) cs

-- ---- what control nodes ask of their peers, in the order of the topology
abbrev pub asking_of : MachineState → NodeId → Asking
asking_of w c = record { node = c.name; asked = asked (held_at w c.name) }

abbrev pub askings : MachineState → List Asking
askings w = map (asking_of w) w.setup.topology.controllers

-- each asks in the form of a membership
abbrev pub AreInForm : List Asking → Type 0
AreInForm asking = AllByRecursion (λ (a : Asking). AreAsked a.asked) asking

abbrev pub line_of : Asking → List ℕ
line_of a = asked_line a.node a.asked

-- ---- what they send to each other
abbrev pub line_of_share : Name → Name → Share → List ℕ
line_of_share from to s = sent_line from to s.sent s.all

-- the line of how many routes that a control node would tell its peers another one asks for. A control node tells
-- itself nothing
abbrev pub sent_to : Name → Map → Asking → List ℕ
sent_to from routes a =
    if same_name from a.node then [] else line_of_share from a.node (share a.asked routes)

-- to each of them, in their order
abbrev pub sent_by : MachineState → List Asking → NodeId → List ℕ
sent_by w asking c = flat_map (sent_to c.name (wanted_by_peers (held_at w c.name))) asking

-- ---- what is written of a state of the network: what each asks, and then what each sends to each other one
abbrev pub text_of : MachineState → List NodeId → List Asking → List ℕ
text_of w cs asking = flat_map line_of asking ++ flat_map (sent_by w asking) cs

abbrev pub constraint_text : MachineState → List ℕ
constraint_text w = text_of w w.setup.topology.controllers (askings w)

-- the one event of the network: it settles
abbrev pub settling : List Event
settling = Settle ∷ []

-- what `constrain` writes of a valid configuration: that of the state in which the network settles
unfoldable pub constrain_text : Checked → List ℕ
constrain_text x = constraint_text (moment x settling)
