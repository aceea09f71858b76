-- What an input makes of an end of an agent.
use Rattle.std.specs.Prelude.{ℕ, List}
use Rattle.std.specs.declared.option.Option.{Option}
use Rattle.std.specs.List.{slice_index_or}
use Rattle.ov_link.specs.declared.step.Input.{Input}
use Rattle.ov_types.specs.declared.rows.NodeId.{NodeId}
use Rattle.item_wire.specs.Happenings.{SessionFields}
use Rattle.item_wire.specs.declared.event.ItemCause.{ItemCause}
use Rattle.item_wire.specs.declared.event.ItemFrom.TheVariants.{Control}
use Rattle.node_core.specs.Beginning as item
pub use Rattle.node_core.specs.Beginning.{state_at}
pub use Rattle.node_core.specs.NodeModel.Naming.{no_node}
use Rattle.node_core.specs.NodeModel.Step.{Beginning, Phase, Post}
use Rattle.agent_node.specs.declared.plan.AgentPlan.{AgentPlan}

-- the control node at the other end of a session
abbrev pub controller_at : AgentPlan → ℕ → NodeId
controller_at plan i = slice_index_or plan.controllers i no_node

-- the session of an end in this state
abbrev pub session_at : AgentPlan → ℕ → Phase → SessionFields
session_at plan i phase = record { peer = (controller_at plan i).name; from = Control; state = state_at phase }

-- what an input makes of the end of its session, where these octets were kept of it before, the cause for which that goes
-- down, and what is kept of it then
abbrev pub BeginsKeeping : AgentPlan → ℕ → Post → List ℕ → Input → Beginning → Option ItemCause → List ℕ → Type 0
BeginsKeeping plan i p = item.BeginsKeeping plan.me.name (session_at plan i p.phase) p
