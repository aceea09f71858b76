-- What an input makes of an end of a control node.
use Rattle.std.specs.Prelude.{◌≡◌, ℕ, List, ◌-◌, ◌+◌, length, if◌then◌else◌, ◌==◌, Bool, true, false}
use Rattle.std.specs.declared.option.Option.{Option}
use Rattle.std.specs.Option.{option_map}
use Rattle.std.specs.List.{slice_index_or}
use Rattle.ov_link.specs.declared.step.Input.{Input}
use Rattle.ov_types.specs.declared.rows.NodeId.{NodeId}
use Rattle.bgp_session.specs.Happenings as peers
use Rattle.bgp_session.specs.declared.event.Cause.{Cause as PeerCause}
use Rattle.bgp_session.specs.declared.event.State.{State}
use Rattle.item_wire.specs.Happenings as items
use Rattle.item_wire.specs.declared.event.ItemCause.{ItemCause}
use Rattle.item_wire.specs.declared.event.ItemFrom.TheVariants as From
use Rattle.item_wire.specs.declared.event.ItemState.{ItemState}
use Rattle.node_core.specs.Beginning as item
use Rattle.node_routes.specs.Beginning as route
pub use Rattle.node_core.specs.NodeModel.Naming.{config, no_node}
use Rattle.node_core.specs.NodeModel.Step.{Beginning, Phase, Idle, Opened, Confirmed, Up, Post}
use Rattle.control_node.specs.Core.{is_peer}
use Rattle.control_node.specs.declared.cause.NodeCause.{NodeCause}
use Rattle.control_node.specs.declared.cause.NodeCause.TheVariants as Cause
use Rattle.control_node.specs.declared.plan.ControlPlan.{ControlPlan}

-- the node at the other end of a peer's or an agent's session
abbrev pub peer_at : ControlPlan → ℕ → NodeId
peer_at plan i = slice_index_or plan.peers (i - 1) no_node

abbrev pub agent_at : ControlPlan → ℕ → NodeId
agent_at plan i = slice_index_or plan.agents (i - (1 + length plan.peers)) no_node

-- ---- the sessions of ends in these states
abbrev pub peer_state : Phase → State
peer_state Idle = State.Idle
peer_state Opened = State.OpenSent
peer_state Confirmed = State.OpenConfirm
peer_state Up = State.Established

abbrev pub peer_session : ControlPlan → ℕ → Post → peers.SessionFields
peer_session plan i p = record { asn = plan.asn; peer = peer_at plan i; state = peer_state p.phase; wide = p.wide }

abbrev pub item_state : Phase → ItemState
item_state Idle = ItemState.Idle
item_state Up = ItemState.Up
item_state _ = ItemState.Opened

-- the feed comes from the configuration node, all else from agents
abbrev pub item_session : ControlPlan → ℕ → Phase → items.SessionFields
item_session plan i phase =
    if i == 0 then record { peer = config; from = From.Feed; state = item_state phase }
    else record { peer = (agent_at plan i).name; from = From.Agent; state = item_state phase }

-- ---- an input
abbrev pub PeerBegins : ControlPlan → ℕ → Post → Input → Beginning → Option NodeCause → Type 0
PeerBegins plan i p input given cause =
    (c : Option PeerCause) × (cause ≡ option_map Cause.Peer c)
    × route.Begins plan.me.address (peer_session plan i p) p input given c

abbrev pub ItemBegins : ControlPlan → ℕ → Post → Input → Beginning → Option NodeCause → Type 0
ItemBegins plan i p input given cause =
    (c : Option ItemCause) × (cause ≡ option_map Cause.Item c)
    × item.Begins plan.me.name (item_session plan i p.phase) p input given c

abbrev pub BeginsBy : Bool → ControlPlan → ℕ → Post → Input → Beginning → Option NodeCause → Type 0
BeginsBy true = PeerBegins
BeginsBy false = ItemBegins

-- what an input makes of the end of its session, and the cause for which that goes down
abbrev pub Begins : ControlPlan → ℕ → Post → Input → Beginning → Option NodeCause → Type 0
Begins plan i = BeginsBy (is_peer plan i) plan i

-- ---- an input where octets were kept of the session before, and what is kept of it then
abbrev pub PeerKeeps : ControlPlan → ℕ → Post → List ℕ → Input → Beginning → Option NodeCause → List ℕ → Type 0
PeerKeeps plan i p kept input given cause left =
    (c : Option PeerCause) × (cause ≡ option_map Cause.Peer c)
    × route.BeginsKeeping plan.me.address (peer_session plan i p) p kept input given c left

abbrev pub ItemKeeps : ControlPlan → ℕ → Post → List ℕ → Input → Beginning → Option NodeCause → List ℕ → Type 0
ItemKeeps plan i p kept input given cause left =
    (c : Option ItemCause) × (cause ≡ option_map Cause.Item c)
    × item.BeginsKeeping plan.me.name (item_session plan i p.phase) p kept input given c left

abbrev pub KeepsBy : Bool → ControlPlan → ℕ → Post → List ℕ → Input → Beginning → Option NodeCause → List ℕ → Type 0
KeepsBy true = PeerKeeps
KeepsBy false = ItemKeeps

abbrev pub BeginsKeeping : ControlPlan → ℕ → Post → List ℕ → Input → Beginning → Option NodeCause → List ℕ → Type 0
BeginsKeeping plan i = KeepsBy (is_peer plan i) plan i
