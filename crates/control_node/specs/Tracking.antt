-- What was sent on sessions that may send: what is wanted there, but for what is marked.
use Rattle.std.specs.Prelude.{◌≡◌, ◌+◌, ℕ, suc, List, [], ◌∷◌, length, true, false}
use Rattle.std.specs.List.{AllByRecursion}
use Rattle.ov_types.specs.declared.rows.NodeId.{NodeId}
use Rattle.item_wire.specs.Happenings.{SessionFields}
use Rattle.node_core.specs.Told.{down_of}
use Rattle.node_core.specs.NodeModel.Paths.{Holdings}
use Rattle.vpn_tables.specs.Views.{peer_of}
use Rattle.control_wants.specs.Marks.{Covered, IsWithin, Marks}
use Rattle.control_wants.specs.Wanted.{IsSentToAgent, IsSentToPeer}
use Rattle.control_node.specs.Ends.{AreEnds}
use Rattle.control_node.specs.Planning.{agent_sends, peer_sends}
use Rattle.control_node.specs.declared.ends.AgentEnd.{AgentEnd}
use Rattle.control_node.specs.declared.ends.PeerEnd.{PeerEnd}

-- what changes of what is to be told, from the one holdings to the other, is marked then, and what was marked still is
pub record AreMarked (d d' : Marks) (h h' : Holdings) : Type 0 where
  pub within : IsWithin d d'
  pub covers : Covered d d' h h'

-- ---- one end
abbrev pub IsPeerTracked : Marks → Holdings → PeerEnd → Type 0
IsPeerTracked d h e = peer_sends e ≡ true → IsSentToPeer d h (peer_of e.sent)

abbrev pub IsAgentTracked : Marks → Holdings → ℕ → AgentEnd → Type 0
IsAgentTracked d h session e = agent_sends e ≡ true → IsSentToAgent d h session (down_of e.sent)

-- ---- agents, of the sessions from one on
abbrev pub AreAgentsTracked : Marks → Holdings → ℕ → List AgentEnd → Type 0
AreAgentsTracked d h session [] = Unit {0}
AreAgentsTracked d h session (e ∷ es) = IsAgentTracked d h session e × AreAgentsTracked d h (suc session) es

-- ---- all of them
pub record AreTracked (d : Marks) (h : Holdings) (peers : List PeerEnd) (agents : List AgentEnd) : Type 0 where
  pub peers_are : AllByRecursion (IsPeerTracked d h) peers
  pub agents_are : AreAgentsTracked d h (1 + length peers) agents

-- where everything is marked, nothing is said of what was sent
abbrev pub Tracks : Marks → Holdings → List PeerEnd → List AgentEnd → Type 0
Tracks d h peers agents = d.all ≡ false → AreTracked d h peers agents

pub record AreEndsTracked (me : NodeId) (asn : ℕ) (feed : SessionFields) (peers : List PeerEnd) (agents : List AgentEnd)
    (h : Holdings) (d : Marks) : Type 0 where
  pub ends : AreEnds me asn feed peers agents h
  pub tracked : Tracks d h peers agents
