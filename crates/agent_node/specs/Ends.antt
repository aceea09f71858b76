-- The ends of an agent's sessions, and what always holds of them.
use Rattle.std.specs.Prelude.{◌≡◌, ◌≤◌, ℕ, List, [], ◌∷◌, map, length, false, refl}
use Rattle.std.specs.Coded.{Coded, code_by, coded×, coded_list}
use Rattle.std.specs.List.{All}
use Rattle.ov_types.specs.contracts.rows.AgentRows as rows
use Rattle.ov_types.specs.declared.keys.UpKey.{UpKey}
use Rattle.ov_types.specs.declared.numbers.Label.{Label as LabelNo}
use Rattle.ov_types.specs.declared.rows.AgentRows.{AgentRows}
use Rattle.ov_types.specs.declared.rows.NodeId.{NodeId}
use Rattle.item_wire.specs.declared.event.ItemFrom.{ItemFrom}
use Rattle.item_wire.specs.declared.event.ItemFrom.TheVariants.{Control}
use Rattle.node_core.specs.Beginning.{phase_of}
use Rattle.node_core.specs.Told.{AllFit, down_of, up_of}
use Rattle.node_core.specs.NodeModel.Codes.{coded_post}
use Rattle.node_core.specs.NodeModel.Step.{Post}
use Rattle.agent_tables.specs.declared.hearing.Hearing.{Hearing}
use Rattle.agent_node.specs.declared.plan.AgentPlan.{AgentPlan}
use Rattle.agent_node.specs.contracts.plan.AgentPlan as plans

pub record Ends : Type 0 where
  pub plan : AgentPlan
  pub posts : List Post

-- the ends of an agent's sessions, with what the agent forwards by
pub record Forwarding : Type 0 where
  pub plan : AgentPlan
  pub posts : List Post
  pub rows : AgentRows

-- ---- the ends, with what was sent on each session. No OPEN comes
abbrev pub Sent : Type 0
Sent = List (UpKey × LabelNo)

abbrev pub end_at : Hearing → Sent → Post
end_at h s = record { phase = phase_of h.session.state; sent = up_of s; held = down_of h.held; wide = false }

abbrev pub posts_of : List Hearing → List Sent → List Post
posts_of [] sents = []
posts_of (h ∷ hs) [] = end_at h [] ∷ posts_of hs []
posts_of (h ∷ hs) (s ∷ ss) = end_at h s ∷ posts_of hs ss

-- ---- what always holds
-- whom a session is with, and what that one may send
abbrev pub whom : Hearing → List ℕ × ItemFrom
whom h = (h.session.peer, h.session.from)

abbrev pub controller : NodeId → List ℕ × ItemFrom
controller n = (n.name, Control)

abbrev pub HeldFits : Hearing → Type 0
HeldFits h = AllFit (down_of h.held)

abbrev pub SentFits : Sent → Type 0
SentFits s = AllFit (up_of s)

-- a session with each control node, in their order, and of each what was sent; what is held and what was sent can be
-- told
pub record AreEnds (plan : AgentPlan) (hearings : List Hearing) (sents : List Sent) : Type 0 where
  pub few : length plan.controllers ≤ 2
  pub whose : map whom hearings ≡ map controller plan.controllers
  pub many : length sents ≡ length plan.controllers
  pub held : All HeldFits hearings
  pub sent : All SentFits sents

-- ---- how they are told apart
abbrev pub coded_ends : Coded Ends
coded_ends =
    code_by (AgentPlan × List Post) (coded× plans.the_row.coded (coded_list coded_post))
    (λ e. (e.plan, e.posts)) (λ c. record { plan = c.0; posts = c.1 }) (λ _. refl)

abbrev pub coded_forwarding : Coded Forwarding
coded_forwarding =
    code_by (AgentPlan × (List Post × AgentRows))
    (coded× plans.the_row.coded (coded× (coded_list coded_post) rows.the_row.coded))
    (λ e. (e.plan, (e.posts, e.rows))) (λ c. record { plan = c.0; posts = c.1.0; rows = c.1.1 }) (λ _. refl)
