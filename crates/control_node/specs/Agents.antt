-- Agents that come and go: the session that an agent gets, and what is left of one that an agent had.
use Rattle.std.specs.Prelude.{ℕ, zero, suc, ◌+◌, ◌-◌, ◌≤◌, ◌<◌, ◌==◌, List, [], ◌∷◌, ◌++◌, length, drop, Bool, ◌&&◌, nat_lt}
use Rattle.std.specs.declared.option.Option.{Option}
use Rattle.std.specs.declared.option.Option.TheVariants.{Some, None}
use Rattle.std.specs.declared.result.Result.{Result}
use Rattle.std.specs.declared.result.Result.TheVariants.{Ok, Err}
use Rattle.std.specs.List.{filter, list_any, slice_index_or, slice_set}
use Rattle.ov_link.specs.declared.step.NodeFault.{NodeFault}
use Rattle.ov_link.specs.declared.step.NodeFault.TheVariants.{LinkFailed, NoMemory}
use Rattle.ov_types.specs.declared.rows.NodeId.{NodeId}
use Rattle.node_core.specs.Naming.{Names}
use Rattle.node_core.specs.NodeModel.Step.{Beginning, NodeKind, Post, Steps, nothing, post}
use Rattle.control_node.specs.Core.{Core, sessions}
use Rattle.control_node.specs.declared.plan.ControlPlan.{ControlPlan}

-- the session is with an agent, or it was
abbrev pub is_agent : ControlPlan → ℕ → Bool
is_agent plan session = nat_lt (length plan.peers) session && nat_lt session (sessions plan)

-- ---- numbers that are retired
-- no agent has this session now
abbrev pub is_retired : ControlPlan → ℕ → Bool
is_retired plan session = list_any (λ n. n == session) plan.retired

-- numbers from low on and below high, ascending
abbrev pub Ascend : ℕ → ℕ → List ℕ → Type 0
Ascend low high [] = Unit {0}
Ascend low high (n ∷ ns) = (low ≤ n) × ((n < high) × Ascend (suc n) high ns)

-- the retired numbers ascend, and each is that of an agent's session
abbrev pub AreRetired : ControlPlan → Type 0
AreRetired plan = Ascend (1 + length plan.peers) (sessions plan) plan.retired

-- a plan with the same sessions, of which these are retired
abbrev pub with_retired : ControlPlan → List ℕ → ControlPlan
with_retired plan retired = record plan { retired = retired }

-- ---- an agent that comes
-- the session that it gets: the least that is retired, and one more than there are where none is
abbrev pub number_for : ControlPlan → ℕ
number_for plan = slice_index_or plan.retired 0 (sessions plan)

-- a list with x at the place of one of its items, or behind the last
abbrev pub put_at : {X : Type 0} → List X → ℕ → X → List X
put_at [] place x = x ∷ []
put_at (y ∷ ys) zero x = x ∷ ys
put_at (y ∷ ys) (suc place) x = y ∷ put_at ys place x

-- the agents with this one at a session
abbrev pub agents_with : ControlPlan → ℕ → NodeId → List NodeId
agents_with plan session agent = put_at plan.agents (session - (1 + length plan.peers)) agent

abbrev pub with_agent : ControlPlan → NodeId → ControlPlan
with_agent plan agent =
    record plan { agents = agents_with plan (number_for plan) agent; retired = drop 1 plan.retired }

-- the node, with an agent whose session is not live and of which nothing is kept
abbrev pub joined : Core → NodeId → Core
joined n agent = record n {
  plan = with_agent n.plan agent;
  posts = put_at n.posts (number_for n.plan) nothing;
  kept = put_at n.kept (number_for n.plan) [];
}

-- ---- an agent that goes
-- ascending numbers, with one that is retired between those below it and those above it
abbrev pub inserted : List ℕ → ℕ → List ℕ
inserted numbers n = filter (λ m. nat_lt m n) numbers ++ n ∷ filter (λ m. nat_lt n m) numbers

abbrev pub retiring : ControlPlan → ℕ → ControlPlan
retiring plan session = with_retired plan (inserted plan.retired session)

-- the node without the agent of a session: its end is closed, and nothing is kept of it
abbrev pub departed : Core → ℕ → Core
departed n session = record n {
  plan = retiring n.plan session;
  posts = slice_set n.posts session nothing;
  kept = slice_set n.kept session [];
}

-- the end of the agent that goes is closed, and nothing is replied
abbrev pub closing : Beginning
closing = record { replies = []; after = None }

-- ---- sessions are told what is wanted, without an input
abbrev pub as_it_is : List Post → Beginning
as_it_is posts = record { replies = []; after = Some (post posts 0) }

-- the session whose link failed
abbrev pub failed_in : {V : Type 0} → Result V NodeFault → Option ℕ
failed_in (Err (LinkFailed s)) = Some s
failed_in (Err NoMemory) = None
failed_in (Ok _) = None

module _ {L : Type 0} (accepted : L → Option (List (List ℕ))) (breaks : L → Option (List ℕ)) (faults : L → ℕ) where
  -- the end of a session is closed, and then all sessions are told. The answer names the lowest whose link failed
  pub record IsRemoval {V : Type 0} (k : NodeKind) (posts posts' : List Post) (session : ℕ) (links links' : List L)
      (result : Result V NodeFault) : Type 0 where
    pub steps : Steps k accepted breaks faults posts posts' session closing links links' (failed_in result)
    pub names : Names faults links links' (failed_in result)

  -- all sessions are told. The answer names the lowest whose link failed
  pub record IsPass {V : Type 0} (k : NodeKind) (posts posts' : List Post) (links links' : List L)
      (result : Result V NodeFault) : Type 0 where
    pub steps : Steps k accepted breaks faults posts posts' 0 (as_it_is posts) links links' (failed_in result)
    pub names : Names faults links links' (failed_in result)
