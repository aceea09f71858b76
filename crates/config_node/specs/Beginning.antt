-- What an input makes of an end of the configuration node.
use Rattle.std.specs.Prelude.{ℕ, List}
use Rattle.std.specs.declared.option.Option.{Option}
use Rattle.std.specs.List.{slice_index_or}
use Rattle.ov_link.specs.declared.step.Input.{Input}
use Rattle.ov_types.specs.declared.rows.NodeId.{NodeId}
use Rattle.item_wire.specs.Happenings.{SessionFields}
use Rattle.item_wire.specs.declared.event.ItemCause.{ItemCause}
use Rattle.item_wire.specs.declared.event.ItemFrom.TheVariants as From
use Rattle.config_check.specs.Checked.{Checked}
use Rattle.node_core.specs.Beginning as item
pub use Rattle.node_core.specs.Beginning.{state_at}
pub use Rattle.node_core.specs.NodeModel.Naming.{no_node}
use Rattle.node_core.specs.NodeModel.Step.{Beginning, Phase, Post}
use Rattle.config_node.specs.MachineModel.Network.{config}

-- the control node at the other end of a session
abbrev pub controller_at : Checked → ℕ → NodeId
controller_at x i = slice_index_or x.topology.controllers i no_node

-- the session of an end in this state. A control node sends its hello there, and nothing else
abbrev pub session_at : Checked → ℕ → Phase → SessionFields
session_at x i phase = record { peer = (controller_at x i).name; from = From.Nothing; state = state_at phase }

-- what an input makes of the end of its session, where these octets were kept of it before, the cause for which that goes
-- down, and what is kept of it then
abbrev pub BeginsKeeping : Checked → ℕ → Post → List ℕ → Input → Beginning → Option ItemCause → List ℕ → Type 0
BeginsKeeping x i p = item.BeginsKeeping config (session_at x i p.phase) p
