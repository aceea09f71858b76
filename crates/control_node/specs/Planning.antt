-- What the ends of a control node's sessions are told in a pass.
use Rattle.std.specs.Prelude.{◌≡◌, ℕ, suc, ◌+◌, List, [], ◌∷◌, ◌++◌, map, length, Bool, not, if◌then◌else◌}
use Rattle.node_core.specs.declared.ends.Plan.{Plan}
use Rattle.node_core.specs.Beginning as item
use Rattle.node_core.specs.Told as items
use Rattle.node_core.specs.NodeModel.Maps.{Map, Change, difference}
use Rattle.node_core.specs.NodeModel.Paths.{Holdings}
use Rattle.node_core.specs.NodeModel.Wants.{wanted_by_peers}
use Rattle.node_routes.specs.Beginning as route
use Rattle.node_routes.specs.Told as routes
use Rattle.vpn_tables.specs.Views.{peer_of}
pub use Rattle.vpn_tables.specs.Here.{wanted_on}
use Rattle.control_node.specs.Wanting.{is_idle, is_up}
use Rattle.control_node.specs.declared.ends.AgentEnd.{AgentEnd}
use Rattle.control_node.specs.declared.ends.PeerEnd.{PeerEnd}

-- the changes from what was sent to what is wanted, where the session may send
abbrev pub plan_of : Bool → (Change → List ℕ) → Map → Map → Plan
plan_of sends spelled sent wanted = record { messages = if sends then map spelled (difference sent wanted) else [] }

abbrev pub feed_plan : Plan
feed_plan = record { messages = [] }

-- ---- a peer, by what is held
abbrev pub peer_sends : PeerEnd → Bool
peer_sends e = is_up (route.phase_of e.session.state)

abbrev pub peer_plan : Holdings → PeerEnd → Plan
peer_plan h e = plan_of (peer_sends e) routes.spelled (peer_of e.sent) (wanted_by_peers h)

pub record IsPeerTold (h : Holdings) (e e' : PeerEnd) : Type 0 where
  pub session_stays : e'.session ≡ e.session
  pub sent : peer_of e'.sent ≡ (if peer_sends e then wanted_by_peers h else peer_of e.sent)

abbrev pub ArePeersTold : Holdings → List PeerEnd → List PeerEnd → Type 0
ArePeersTold h [] [] = Unit {0}
ArePeersTold h (e ∷ es) (e' ∷ es') = IsPeerTold h e e' × ArePeersTold h es es'
ArePeersTold h _ _ = ⊥

-- ---- an agent, by what is held
abbrev pub agent_sends : AgentEnd → Bool
agent_sends e = not (is_idle (item.phase_of e.session.state))

abbrev pub agent_plan : Holdings → ℕ → AgentEnd → Plan
agent_plan h session e = plan_of (agent_sends e) items.spelled (items.down_of e.sent) (wanted_on h session)

pub record IsAgentTold (h : Holdings) (session : ℕ) (e e' : AgentEnd) : Type 0 where
  pub id : e'.id ≡ e.id
  pub session_stays : e'.session ≡ e.session
  pub sent : items.down_of e'.sent ≡ (if agent_sends e then wanted_on h session else items.down_of e.sent)

-- ---- agents, of the sessions from one on
abbrev pub agent_plans : Holdings → ℕ → List AgentEnd → List Plan
agent_plans h session [] = []
agent_plans h session (e ∷ es) = agent_plan h session e ∷ agent_plans h (suc session) es

abbrev pub AreAgentsTold : Holdings → ℕ → List AgentEnd → List AgentEnd → Type 0
AreAgentsTold h session [] [] = Unit {0}
AreAgentsTold h session (e ∷ es) (e' ∷ es') = IsAgentTold h session e e' × AreAgentsTold h (suc session) es es'
AreAgentsTold h session _ _ = ⊥

-- ---- all of them
-- the feed is told nothing, the peers what they are to have, each agent what it is to have
pub record ArePlanned (h : Holdings) (peers peers' : List PeerEnd) (agents agents' : List AgentEnd) (plans : List Plan)
    : Type 0 where
  pub peers_told : ArePeersTold h peers peers'
  pub agents_told : AreAgentsTold h (1 + length peers) agents agents'
  pub plans_are : plans
      ≡ feed_plan ∷ (map (peer_plan h) peers ++ agent_plans h (1 + length peers) agents)
