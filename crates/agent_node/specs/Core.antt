-- What is seen of an agent: its plan, its ends, the octets that it keeps, what it forwards by, and whether it failed.
use Rattle.std.specs.Prelude.{ℕ, List, [], map, length, Bool, false}
use Rattle.ov_types.specs.declared.rows.AgentRows.{AgentRows}
use Rattle.node_core.specs.Told.{spelled}
use Rattle.node_core.specs.NodeModel.Agent.{Heard, Holdings, wanted as wanted_of}
use Rattle.node_core.specs.NodeModel.Maps.{Map}
pub use Rattle.node_core.specs.Keeping.{AreFew, AreOfLive, AreSwept, kept_at, nothing_kept}
pub use Rattle.node_core.specs.Resting.{is_idle, is_up, may_send, nothings}
use Rattle.node_core.specs.NodeModel.Step.{NodeKind, Post}
use Rattle.agent_node.specs.declared.plan.AgentPlan.{AgentPlan}

-- an agent as it is seen: its ends are those of the control nodes, in the order in which it lists them
pub record Core : Type 0 where
  pub plan : AgentPlan
  pub posts : List Post
  -- the octets of a record that is not whole yet, of each session
  pub kept : List (List ℕ)
  pub rows : AgentRows
  pub failed : Bool

abbrev pub sessions : AgentPlan → ℕ
sessions plan = length plan.controllers

-- ---- what it holds, from its ends
abbrev pub heard_at : Post → Heard
heard_at p = record { is_up = is_up p.phase; map = p.held }

abbrev pub holdings : List Post → Holdings
holdings posts = map heard_at posts

-- ---- what it wants its sessions to have been told: the same everywhere, from their opening on
abbrev pub wanted : List Post → ℕ → Map
wanted posts i = wanted_of (holdings posts)

abbrev pub kind : NodeKind
kind = record { wanted = wanted; may_send = may_send; spelled = λ i c. spelled c }

-- ---- an agent whose ends are all closed
abbrev pub fresh : AgentPlan → Core
fresh plan = record {
  plan = plan;
  posts = nothings (sessions plan);
  kept = nothing_kept (sessions plan);
  rows = record { labels = []; acls = []; routes = [] };
  failed = false;
}
