-- Ends of which nothing was told yet.
use Rattle.std.specs.Prelude.{ℕ, ◌+◌, List, [], length, replicate}
use Rattle.std.specs.FinMap.{empty}
use Rattle.ov_types.specs.declared.rows.NodeId.{NodeId}
use Rattle.bgp_session.specs.Happenings as peers
use Rattle.item_wire.specs.Happenings as items
use Rattle.item_wire.specs.declared.event.ItemFrom.TheVariants as From
use Rattle.node_core.specs.NodeModel.Paths.{Holdings}
use Rattle.control_node.specs.Core.{nothings, sessions, told_from}
use Rattle.control_node.specs.Ends.{Ends}
use Rattle.control_node.specs.declared.ends.AgentEnd.{AgentEnd}
use Rattle.control_node.specs.declared.ends.PeerEnd.{PeerEnd}
use Rattle.control_node.specs.declared.plan.ControlPlan.{ControlPlan}

abbrev pub new_peer : ℕ → NodeId → PeerEnd
new_peer asn id = record { session = peers.idle_session asn id; sent = [] }

abbrev pub new_agent : NodeId → AgentEnd
new_agent id = record { id = id; session = items.idle_session id.name From.Agent; sent = [] }

-- each peer and each agent has its place, and told nothing
abbrev pub none_told : ℕ → List NodeId → List NodeId → Holdings
none_told asn peers agents = record {
  asn = asn;
  feed = empty;
  peers = replicate (length peers) empty;
  agents = told_from (1 + length peers) agents [];
}

abbrev pub new_ends : ControlPlan → Ends
new_ends plan = record { plan = plan; posts = nothings (sessions plan) }
