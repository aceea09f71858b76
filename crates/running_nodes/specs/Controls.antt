-- Who is at the sessions of a control node while agents come and go, and what it wants them to have been told. A session
-- whose number is retired is nobody's: nothing is held of it.
use Rattle.std.specs.Prelude.{ℕ, ◌+◌, ◌==◌, List, [], ◌∷◌, map, length, drop, take, Bool, if◌then◌else◌}
use Rattle.std.specs.FinMap.{empty}
use Rattle.std.specs.declared.option.Option.{Option}
use Rattle.std.specs.declared.option.Option.TheVariants.{Some, None}
use Rattle.std.specs.List.{enumerate_from, filter_map}
use Rattle.std.specs.Option.{unwrap_or}
use Rattle.ov_types.specs.declared.rows.NodeId.{NodeId}
use Rattle.control_node.specs.Agents.{is_retired}
use Rattle.control_node.specs.Wanting as wanting
use Rattle.control_node.specs.Core as core
use Rattle.control_node.specs.declared.plan.ControlPlan.{ControlPlan}
use Rattle.control_node.specs.ControlWants.Held.{told_in}
use Rattle.agent_node.specs.NodeModel.Maps.{Map}
use Rattle.agent_node.specs.NodeModel.Paths.{Holdings, Told}
use Rattle.agent_node.specs.NodeModel.Step.{NodeKind, Post, post}
use Rattle.agent_node.specs.NodeModel.Wants.{wanted_by_agent, wanted_by_peers}

-- who it is, and who is at the other ends: session 0 is the feed, then come the peers, and then the agents by their
-- numbers
pub record Controls : Type 0 where
  pub me : NodeId
  pub asn : ℕ
  pub peers : List NodeId
  pub agents : List (Option NodeId)

-- the number of the first agent's session
abbrev pub first_agent : Controls → ℕ
first_agent c = 1 + length c.peers

-- ---- as the node itself has it
-- the agents of a plan, without those whose numbers are retired
abbrev pub agents_at : ControlPlan → List (Option NodeId)
agents_at plan =
    map (λ e. if is_retired plan e.0 then None else Some e.1) (enumerate_from (1 + length plan.peers) plan.agents)

abbrev pub controls_of : ControlPlan → Controls
controls_of plan = record { me = plan.me; asn = plan.asn; peers = plan.peers; agents = agents_at plan }

-- the numbers at which there is nobody
abbrev pub vacant_from : ℕ → List (Option NodeId) → List ℕ
vacant_from session [] = []
vacant_from session (None ∷ agents) = session ∷ vacant_from (1 + session) agents
vacant_from session (Some a ∷ agents) = vacant_from (1 + session) agents

-- a plan with these sessions
abbrev pub plan_of : Controls → ControlPlan
plan_of c = record {
  me = c.me;
  asn = c.asn;
  peers = c.peers;
  agents = map (λ o. unwrap_or o c.me) c.agents;
  retired = vacant_from (first_agent c) c.agents;
}

-- ---- what it holds, from its ends
-- what the agent of a session told, where there is one
abbrev pub told_at : List Post → ℕ → Option NodeId → Option Told
told_at posts session None = None
told_at posts session (Some a) =
    Some (record { session = session; address = a.address; map = (post posts session).held })

abbrev pub holdings : Controls → List Post → Holdings
holdings c posts = record {
  asn = c.asn;
  feed = (post posts 0).held;
  peers = map (λ (p : Post). p.held) (take (length c.peers) (drop 1 posts));
  agents = filter_map (λ e. told_at posts e.0 e.1) (enumerate_from (first_agent c) c.agents);
}

-- ---- what it wants its sessions to have been told: nothing on the feed, and on every other session what its holdings
-- make it want there
abbrev pub wanted : Controls → List Post → ℕ → Map
wanted c posts i =
    if i == 0 then empty
    else if core.is_peer (plan_of c) i then wanted_by_peers (holdings c posts)
    else wanted_by_agent (holdings c posts) (told_in (holdings c posts).agents i)

abbrev pub kind : Controls → NodeKind
kind c = record {
  wanted = wanted c;
  may_send = wanting.may_send (plan_of c);
  spelled = wanting.spelled (plan_of c);
}
