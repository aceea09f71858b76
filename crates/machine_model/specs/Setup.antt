-- What a network stands on: a topology with a configuration that were found valid, and the numbers that the sessions of
-- agents have at each control node. What an edit makes of them.
use Rattle.std.specs.Prelude.{ℕ, max, List, [], ◌∷◌, map, length, Bool, false, ◌&&◌, ◌==◌, if◌then◌else◌}
use Rattle.std.specs.declared.option.Option.{Option}
use Rattle.std.specs.declared.option.Option.TheVariants.{Some, None}
use Rattle.std.specs.Option.{unwrap_or, option_map}
use Rattle.std.specs.List.{filter, list_any}
use Rattle.std.specs.Cmp.Lexicographic.{pointwise}
use Rattle.std.specs.FinMap.{from_entries}
use Rattle.ov_types.specs.First.{same_name}
use Rattle.ov_types.specs.declared.rows.NodeId.{NodeId}
use Rattle.schedule_script.specs.ConfigTypes.Edit.{Edit}
use Rattle.schedule_script.specs.ConfigTypes.Edit.TheVariants.{Put, Delete}
use Rattle.schedule_script.specs.ConfigTypes.Object.{Object}
use Rattle.schedule_script.specs.ConfigTypes.Object.TheVariants as objects
use Rattle.schedule_script.specs.ConfigTypes.ObjectKind.{ObjectKind}
use Rattle.schedule_script.specs.ConfigTypes.ObjectKind.TheVariants as kinds
use Rattle.schedule_script.specs.ConfigTypes.Config.{Config}
use Rattle.schedule_script.specs.ConfigTypes.Node.{Node}
use Rattle.schedule_script.specs.ConfigTypes.Topology.{Topology}
use Rattle.schedule_script.specs.ConfigCheck.Checked.{Checked}
use Rattle.schedule_script.specs.ConfigCheck.Finding.{node_named}
use Rattle.schedule_script.specs.ConfigCheck.EditFault.{EditFault}
use Rattle.schedule_script.specs.ConfigCheck.Edits as edits
use Rattle.transform_model.specs.Objects.{low_objects}
use Rattle.transform_model.specs.Uses.{ConfiguredUse, uses}
use Rattle.transform_model.specs.NodeModel.Maps.{Map}
use Rattle.transform_model.specs.NodeModel.Wants.{slice_entry}

abbrev pub Name : Type 0
Name = List ℕ

-- the agents that have sessions with a control node, by the numbers of these sessions. A retired number has none
pub record Numbers : Type 0 where
  pub control : Name
  pub agents : List (Option NodeId)

pub record Setup : Type 0 where
  pub topology : Topology
  pub config : Config
  pub numbers : List Numbers

-- what was found valid
abbrev pub checked : Setup → Checked
checked x = record { topology = x.topology; config = x.config }

-- ---- numbers
abbrev pub lists : Node → NodeId → Bool
lists n c = list_any (same_name c.name) n.controllers

abbrev pub id_of : Node → NodeId
id_of n = record { name = n.name; address = n.address }

-- at first a control node's agents have their numbers in the topology's order
abbrev pub first_numbers : List Node → List NodeId → List Numbers
first_numbers nodes controllers =
    map
    (λ (c : NodeId). record { control = c.name; agents = map (λ n. Some (id_of n)) (filter (λ n. lists n c) nodes) })
    controllers

abbrev pub opening : Checked → Setup
opening x = record {
  topology = x.topology;
  config = x.config;
  numbers = first_numbers x.topology.nodes x.topology.controllers;
}

abbrev pub agents_in : List Numbers → Name → List (Option NodeId)
agents_in [] name = []
agents_in (n ∷ ns) name = if same_name n.control name then n.agents else agents_in ns name

abbrev pub agents_of : Setup → Name → List (Option NodeId)
agents_of x name = agents_in x.numbers name

abbrev pub has_name : Name → Option NodeId → Bool
has_name name None = false
has_name name (Some a) = same_name a.name name

-- the number of an agent that goes is retired
abbrev pub without_agent : Name → List (Option NodeId) → List (Option NodeId)
without_agent name agents = map (λ o. if has_name name o then None else o) agents

-- an agent that comes gets the least retired number, or the next one where there is none
abbrev pub with_agent : NodeId → List (Option NodeId) → List (Option NodeId)
with_agent a [] = Some a ∷ []
with_agent a (None ∷ agents) = Some a ∷ agents
with_agent a (Some b ∷ agents) = Some b ∷ with_agent a agents

abbrev pub is_listed : Name → Node → Bool
is_listed control n = list_any (same_name control) n.controllers

abbrev pub came_at : Option Node → Name → List (Option NodeId) → List (Option NodeId)
came_at None control agents = agents
came_at (Some n) control agents = if is_listed control n then with_agent (id_of n) agents else agents

-- the low-level objects of the configuration, as they are told: the map that the configuration node holds
unfoldable pub low_in : Checked → Map
low_in x = from_entries (map slice_entry (low_objects x.topology x.config))

abbrev pub low : Setup → Map
low x = low_in (checked x)

-- the greatest number of services of a use in effect, or 0
abbrev pub longest_of : List ConfiguredUse → ℕ
longest_of [] = 0
longest_of (u ∷ us) = max (length u.services) (longest_of us)

unfoldable pub longest_in : Checked → ℕ
longest_in x = longest_of (uses x.config)

abbrev pub longest : Setup → ℕ
longest x = longest_in (checked x)

-- ---- compute nodes that come, go, or list other control nodes than before
pub record Move : Type 0 where
  pub name : Name
  -- the control nodes that it listed, and what it is now
  pub left : List Name
  pub now : Option Node

abbrev pub listed_by : Option Node → List Name
listed_by o = unwrap_or (option_map (λ (n : Node). n.controllers) o) []

-- a node that stands as it was does not move
abbrev pub stands : Option Node → Node → Bool
stands None n = false
stands (Some m) n = (m.address.0 == n.address.0) && pointwise same_name m.controllers n.controllers

abbrev pub put_moves : Object → Topology → Option Move
put_moves (objects.Node n) t =
    if stands (node_named t n.name) n then None
    else Some (record { name = n.name; left = listed_by (node_named t n.name); now = Some n })
put_moves _ t = None

abbrev pub delete_moves : ObjectKind → Name → Topology → Option Move
delete_moves kinds.Node name t = Some (record { name = name; left = listed_by (node_named t name); now = None })
delete_moves _ name t = None

abbrev pub moves : Edit → Topology → Option Move
moves (Put x) t = put_moves x t
moves (Delete kind name) t = delete_moves kind name t

-- first all numbers that it had are retired, and then it gets its new ones
abbrev pub renumbered_at : Move → Numbers → Numbers
renumbered_at m n = record {
  control = n.control;
  agents = came_at m.now n.control (without_agent m.name n.agents);
}

abbrev pub renumbered : Option Move → List Numbers → List Numbers
renumbered None ns = ns
renumbered (Some m) ns = map (renumbered_at m) ns

-- ---- edits
abbrev pub remade : Checked → List Numbers → Setup
remade x ns = record { topology = x.topology; config = x.config; numbers = ns }

-- what an edit makes of a setup, where it has no fault
abbrev pub edited_without : Option EditFault → Setup → Edit → Option Setup
edited_without None x e = Some (remade (edits.edited e (checked x)) (renumbered (moves e x.topology) x.numbers))
edited_without (Some f) x e = None

abbrev pub edited : Setup → Edit → Option Setup
edited x e = edited_without (edits.edit_fault (checked x) e) x e
