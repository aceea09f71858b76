-- What a control node holds of its peers.
use Rattle.std.specs.Prelude.{◌≡◌, List, map, not}
use Rattle.std.specs.List.{filter}
use Rattle.ov_types.specs.First.{same_name}
use Rattle.ov_types.specs.declared.rows.NodeId.{NodeId}
use Rattle.node_model.specs.Maps.{Map}
use Rattle.node_model.specs.Members.{Member}
use Rattle.node_model.specs.Wants.{wanted_by_peers}
use Rattle.machine_laws.specs.MachineModel.Setup.{Name}
use Rattle.machine_laws.specs.MachineModel.Network.{MachineState, control_holdings, views_of}

-- what the control node of a name is to tell its peers
abbrev pub told_by : MachineState → NodeId → Map
told_by w c = wanted_by_peers (control_holdings w.setup c.name (views_of c.name w.sessions))

-- the control nodes but for the one of a name, in the order of the topology
abbrev pub peers_of : MachineState → Name → List NodeId
peers_of w name = filter (λ (d : NodeId). not (same_name d.name name)) w.setup.topology.controllers

-- a control node holds of each of its peers what that one is to tell
abbrev pub HearsItsPeers : MachineState → NodeId → Type 0
HearsItsPeers w c =
    (control_holdings w.setup c.name (views_of c.name w.sessions)).peers ≡ map (told_by w) (peers_of w c.name)

abbrev pub AllHearTheirPeers : MachineState → Type 0
AllHearTheirPeers w = (c : NodeId) → Member c w.setup.topology.controllers → HearsItsPeers w c
