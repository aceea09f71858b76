-- What the control nodes of a network hold.
use Rattle.std.specs.Prelude.{Bool}
use Rattle.std.specs.List.{list_any}
use Rattle.ov_types.specs.First.{same_name}
use Rattle.ov_types.specs.declared.rows.NodeId.{NodeId}
use Rattle.config_types.specs.declared.topology.Topology.{Topology}
use Rattle.node_model.specs.Paths.{Holdings}
use Rattle.running_nodes.specs.MachineModel.Setup.{Name}
use Rattle.running_nodes.specs.MachineModel.Network.{MachineState, control_holdings, views_of}

-- a control node of a topology has the name
abbrev pub is_control_node : Topology → Name → Bool
is_control_node t name = list_any (λ (c : NodeId). same_name c.name name) t.controllers

-- what the control node of a name holds of all its sessions
abbrev pub held_at : MachineState → Name → Holdings
held_at w name = control_holdings w.setup name (views_of name w.sessions)
