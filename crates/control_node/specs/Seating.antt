-- The ends of a control node's sessions, as an agent comes.
use Rattle.std.specs.Prelude.{ℕ}
use Rattle.ov_types.specs.declared.rows.NodeId.{NodeId}
use Rattle.node_core.specs.NodeModel.Step.{nothing}
use Rattle.control_node.specs.Agents.{agents_with, put_at}
use Rattle.control_node.specs.Ends.{Ends}

-- the agent is at this session, whose end is closed
abbrev pub seated : Ends → ℕ → NodeId → Ends
seated e session agent =
    record { plan = record e.plan { agents = agents_with e.plan session agent }; posts = put_at e.posts session nothing }
