-- What is asked of a configuration and of a schedule: that both are of the written form, and no rule is broken.
use Rattle.std.specs.Prelude.{◌≡◌, ℕ, List, IsTrue, true}
use Rattle.std.specs.declared.option.Option.TheVariants.{None}
use Rattle.ov_types.specs.declared.packet.Packet.{Packet}
use Rattle.ov_types.specs.declared.rows.NodeId.{NodeId}
use Rattle.ov_types.specs.declared.rows.NodeRows.TheVariants as Rows
use Rattle.route_targets.specs.Forwarding.{forwarding}
use Rattle.config_types.specs.Form.{has_config_form, has_topology_form}
use Rattle.config_types.specs.declared.topology.Node.{Node}
use Rattle.schedule_script.specs.ConfigCheck.Checked.{Checked}
use Rattle.schedule_script.specs.ConfigCheck.Rules.{first_broken}
use Rattle.transform_model.specs.ReachPlain.Reachability.{reachability}
use Rattle.transform_model.specs.Compiled.{agent_rows}
use Rattle.transform_model.specs.Tables.{control_rows}
use Rattle.node_laws.specs.NodeModel.Members.{Member}
use Rattle.machine_model.specs.Setup.{Name, Setup, opening}
use Rattle.machine_model.specs.Session.{Message}
use Rattle.machine_model.specs.Network.{MachineState, start}
use Rattle.machine_model.specs.Steps.{is_settled}
use Rattle.machine_model.specs.Events.{MachineEvent, after, forwarders, shown}
use Rattle.machine_model.specs.Moments.{ArePositive, EditsAreValid}

-- a topology with a configuration, of the written form and with no broken rule
pub record IsWritten (x : Setup) : Type 0 where
  pub topology : IsTrue (has_topology_form x.topology)
  pub config : IsTrue (has_config_form x.config)
  pub valid : first_broken x.topology x.config ≡ None

-- what an edit puts is of the written form
abbrev pub IsOfForm : Setup → Type 0
IsOfForm x = IsTrue (has_topology_form x.topology) × IsTrue (has_config_form x.config)

-- after any schedule from a valid configuration, whose edits are of the written form. A refused edit changes nothing,
-- and an accepted one breaks no rule
abbrev pub AfterAnySchedule : ((Name → Message → ℕ) → MachineState → Type 0) → Type 0
AfterAnySchedule P =
    (size : Name → Message → ℕ) → ArePositive size
    → (x : Checked) → IsWritten (opening x)
    → (es : List MachineEvent) → EditsAreValid size IsOfForm (start x) es
    → P size (after size (start x) es)

-- once every session is up and nothing is in flight, each control node shows the tables of all instances
abbrev pub ControlNodesShowTables : MachineState → Type 0
ControlNodesShowTables w =
    is_settled w ≡ true → (n : NodeId) → Member n w.setup.topology.controllers
    → shown w n.name ≡ Rows.Control (control_rows w.setup.topology w.setup.config)

-- once every session is up and nothing is in flight, the agent of each compute node shows the rows of its address
abbrev pub AgentsShowRows : MachineState → Type 0
AgentsShowRows w =
    is_settled w ≡ true → (n : Node) → Member n w.setup.topology.nodes
    → shown w n.name ≡ Rows.Agent (agent_rows w.setup.topology w.setup.config n.address)

-- once every session is up and nothing is in flight, each packet goes where policies say
abbrev pub SettledIsReachable : MachineState → Type 0
SettledIsReachable w =
    is_settled w ≡ true → (p : Packet) → forwarding (forwarders w) p ≡ reachability w.setup.config p
