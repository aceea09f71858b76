-- The ends of a control node's sessions, and what always holds of them.
use Rattle.std.specs.Prelude.{◌≡◌, ◌≢◌, ◌<◌, ◌+◌, ◌^◌, ℕ, suc, List, [], ◌∷◌, ◌++◌, map, length, false, refl}
use Rattle.std.specs.Coded.{Coded, code_by, coded×, coded_list}
use Rattle.std.specs.FinMap.{empty}
use Rattle.std.specs.List.{AllByRecursion}
use Rattle.ov_types.specs.declared.prefix.Addr.{Addr}
use Rattle.ov_types.specs.declared.rows.NodeId.{NodeId}
use Rattle.bgp_session.specs.declared.event.State.TheVariants as State
use Rattle.item_wire.specs.Happenings.{SessionFields}
use Rattle.item_wire.specs.declared.event.ItemFrom.TheVariants as From
use Rattle.item_wire.specs.declared.event.ItemState.{ItemState}
use Rattle.control_wants.specs.Held.{HoldingsFit}
use Rattle.node_core.specs.Beginning as item
use Rattle.node_core.specs.Told.{AllFit, down_of}
use Rattle.node_core.specs.NodeModel.Codes.{coded_post}
use Rattle.node_core.specs.NodeModel.Maps.{Map}
use Rattle.node_core.specs.NodeModel.Paths.{Holdings, Told}
use Rattle.node_core.specs.NodeModel.Step.{Post}
use Rattle.node_routes.specs.Beginning as route
use Rattle.vpn_tables.specs.Views.{peer_of}
use Rattle.control_node.specs.Beginning.{config}
use Rattle.control_node.specs.declared.ends.AgentEnd.{AgentEnd}
use Rattle.control_node.specs.declared.ends.PeerEnd.{PeerEnd}
use Rattle.control_node.specs.declared.plan.ControlPlan.{ControlPlan}
use Rattle.control_node.specs.contracts.plan.ControlPlan as plans

pub record Ends : Type 0 where
  pub plan : ControlPlan
  pub posts : List Post

-- who is at them. Which numbers are retired the node keeps, and not its ends
abbrev pub plan_of : NodeId → ℕ → List PeerEnd → List AgentEnd → ControlPlan
plan_of me asn peers agents = record {
  me = me;
  asn = asn;
  peers = map (λ (e : PeerEnd). e.session.peer) peers;
  agents = map (λ (e : AgentEnd). e.id) agents;
  retired = [];
}

-- ---- one end, with what the tables hold of it. An OPEN comes from peers alone
abbrev pub feed_post : ItemState → Map → Post
feed_post feed m = record { phase = item.phase_of feed; sent = empty; held = m; wide = false }

abbrev pub peer_post : PeerEnd → Map → Post
peer_post e m =
    record { phase = route.phase_of e.session.state; sent = peer_of e.sent; held = m; wide = e.session.wide }

abbrev pub agent_post : AgentEnd → Map → Post
agent_post e m = record { phase = item.phase_of e.session.state; sent = down_of e.sent; held = m; wide = false }

-- ---- all of them
abbrev pub peer_posts : List PeerEnd → List Map → List Post
peer_posts [] maps = []
peer_posts (e ∷ es) [] = peer_post e empty ∷ peer_posts es []
peer_posts (e ∷ es) (m ∷ maps) = peer_post e m ∷ peer_posts es maps

abbrev pub agent_posts : List AgentEnd → List Told → List Post
agent_posts [] agents = []
agent_posts (e ∷ es) [] = agent_post e empty ∷ agent_posts es []
agent_posts (e ∷ es) (a ∷ agents) = agent_post e a.map ∷ agent_posts es agents

abbrev pub posts_of : ItemState → List PeerEnd → List AgentEnd → Holdings → List Post
posts_of feed peers agents h =
    feed_post feed h.feed ∷ (peer_posts peers h.peers ++ agent_posts agents h.agents)

-- ---- what always holds
-- each agent has its session's number and its address in the tables
abbrev pub seats : ℕ → List AgentEnd → List (ℕ × Addr)
seats session [] = []
seats session (e ∷ es) = (session, e.id.address) ∷ seats (suc session) es

abbrev pub seat : Told → ℕ × Addr
seat a = (a.session, a.address)

-- an agent's session is with that agent
pub record IsAgentEnd (e : AgentEnd) : Type 0 where
  pub peer : e.session.peer ≡ e.id.name
  pub from : e.session.from ≡ From.Agent
  pub sent : AllFit (down_of e.sent)

pub record AreEnds (me : NodeId) (asn : ℕ) (feed : SessionFields) (peers : List PeerEnd) (agents : List AgentEnd)
    (h : Holdings) : Type 0 where
  pub address : me.address.0 ≢ 0
  pub asn_fits : asn < 2 ^ 32
  pub few : length peers + length agents < 65535
  pub feed_peer : feed.peer ≡ config
  pub feed_from : feed.from ≡ From.Feed
  pub peer_ends : AllByRecursion (λ (e : PeerEnd). e.session.asn ≡ asn) peers
  pub agent_ends : AllByRecursion IsAgentEnd agents
  pub asn_held : h.asn ≡ asn
  pub peers_held : length h.peers ≡ length peers
  pub agents_held : map seat h.agents ≡ seats (1 + length peers) agents
  pub fit : HoldingsFit h

-- ---- how they are told apart
abbrev pub coded_ends : Coded Ends
coded_ends =
    code_by (ControlPlan × List Post) (coded× plans.the_row.coded (coded_list coded_post))
    (λ e. (e.plan, e.posts)) (λ c. record { plan = c.0; posts = c.1 }) (λ _. refl)

-- ---- closed ends
abbrev pub closed_peer : PeerEnd → PeerEnd
closed_peer e = record { session = record e.session { state = State.Idle; wide = false }; sent = [] }

abbrev pub closed_agent : AgentEnd → AgentEnd
closed_agent e = record e { session = record e.session { state = ItemState.Idle }; sent = [] }

-- ---- ends that are opened
abbrev pub opened_peer : PeerEnd → PeerEnd
opened_peer e = record e { session = record e.session { state = State.OpenSent } }

abbrev pub opened_agent : AgentEnd → AgentEnd
opened_agent e = record e { session = record e.session { state = ItemState.Opened } }
