-- What is seen of a control node: its plan, its ends, the octets that it keeps, and whether it failed.
use Rattle.std.specs.Prelude.{ℕ, suc, ◌+◌, List, [], ◌∷◌, map, length, take, drop, Bool, false, ◌&&◌}
use Rattle.std.specs.Prelude.{nat_lt, nat_le}
use Rattle.std.specs.FinMap.{empty}
use Rattle.ov_types.specs.declared.rows.NodeId.{NodeId}
use Rattle.node_core.specs.NodeModel.Paths.{Holdings, Told}
pub use Rattle.node_core.specs.Keeping.{AreFew, AreOfLive, AreSwept, kept_at, nothing_kept}
pub use Rattle.node_core.specs.Resting.{nothings}
use Rattle.node_core.specs.NodeModel.Step.{Post, post}
use Rattle.control_node.specs.declared.plan.ControlPlan.{ControlPlan}

-- a control node as it is seen: its ends are the feed's, then the peers', then the agents'
pub record Core : Type 0 where
  pub plan : ControlPlan
  pub posts : List Post
  -- the octets of a message that is not whole yet, of each session
  pub kept : List (List ℕ)
  pub failed : Bool

abbrev pub sessions : ControlPlan → ℕ
sessions plan = 1 + (length plan.peers + length plan.agents)

-- the sessions of peers are those from 1 on
abbrev pub is_peer : ControlPlan → ℕ → Bool
is_peer plan i = nat_lt 0 i && nat_le i (length plan.peers)

-- ---- what it holds, from its ends
-- what each of the agents from a session on told
abbrev pub told_from : ℕ → List NodeId → List Post → List Told
told_from session [] posts = []
told_from session (a ∷ agents) [] =
    record { session = session; address = a.address; map = empty } ∷ told_from (suc session) agents []
told_from session (a ∷ agents) (p ∷ posts) =
    record { session = session; address = a.address; map = p.held } ∷ told_from (suc session) agents posts

abbrev pub holdings : ControlPlan → List Post → Holdings
holdings plan posts = record {
  asn = plan.asn;
  feed = (post posts 0).held;
  peers = map (λ (p : Post). p.held) (take (length plan.peers) (drop 1 posts));
  agents = told_from (1 + length plan.peers) plan.agents (drop (1 + length plan.peers) posts);
}

-- ---- a node whose ends are all closed
abbrev pub fresh : ControlPlan → Core
fresh plan =
    record { plan = plan; posts = nothings (sessions plan); kept = nothing_kept (sessions plan); failed = false }
