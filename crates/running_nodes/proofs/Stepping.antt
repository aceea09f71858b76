-- What a step over links, an edit and a restart come to at a seat, for each kind of node.
use Rattle.std.proofs.Common.{◌≡◌, ◌≢◌, ◌<◌, ℕ, Bool, true, false, Err, zero, suc, Option, Some, Result, List, [], ◌∷◌, length, sym, ◌∙◌, ap, refl, arith}
use Rattle.std.specs.List.{slice_set}
use Rattle.ov_link.specs.FailingState.{FailingState}
use Rattle.ov_link.specs.declared.step.Input.{Input}
use Rattle.ov_link.specs.declared.step.NodeFault.{NodeFault}
use Rattle.ov_link.specs.declared.step.NodeFault.TheVariants.{NoMemory}
use Rattle.ov_link.specs.declared.step.Stepped.{Stepped}
use Rattle.ov_types.specs.declared.rows.NodeId.{NodeId}
use Rattle.config_check.specs.Checked.{Checked}
use Rattle.node_core.specs.Keeping.{AreSwept, kept_at, nothing_kept}
use Rattle.node_core.specs.Resting.{nothings}
use Rattle.node_core.specs.Whole.{IsWholeStep, session_of}
use Rattle.node_model.specs.Step.{Beginning, Post, Steps, nothing, post}
use Rattle.running_nodes.specs.ConfigNode.Core as configuration
use Rattle.running_nodes.specs.ControlNode.Agents.{AreRetired, is_retired}
use Rattle.running_nodes.specs.ControlNode.Beginning.{BeginsKeeping}
use Rattle.running_nodes.specs.ControlNode.Core as control
use Rattle.running_nodes.specs.ControlNode.Wanting as wanting
use Rattle.running_nodes.specs.ControlNode.NodeCause.{NodeCause}
use Rattle.running_nodes.specs.ControlNode.ControlPlan.{ControlPlan}
use Rattle.agent_node.specs.Core as agent
use Rattle.agent_node.specs.declared.plan.AgentPlan.{AgentPlan}
use Rattle.running_nodes.specs.Controls.{controls_of}
use Rattle.running_nodes.specs.Seats.{Who, Configuring, Controlling, Forwarding, kind_of, names_of, others_of}
use Rattle.running_nodes.specs.Steps.{BeginsAt, all_of}
use Rattle.running_nodes.specs.Changes.{PassesOver, SetsOver, TakesOver, emptied_inner}
use Rattle.running_nodes.specs.Cores.{IsVacated, configured, controlled, forwarded}
use Rattle.running_nodes.specs.Halves.{Inner}
use Rattle.running_nodes.specs.ConfigNode.Setting.{as_it_is}
use Rattle.running_nodes.proofs.Failing.{failing_steps}
use Rattle.running_nodes.proofs.Vacant.{begins_alike, first_stays, node_steps, none_after, none_fresh, sessions_there}

-- ---- a step
pub takes_over : {C : Type 0} (n n' : Inner) (input : Input) (links links' : List FailingState) (left : List ℕ)
    (Begins : Beginning → Option C → Type 0) (result : Result (Stepped C) NodeFault)
    → ((given : Beginning) (cause : Option C) → Begins given cause
    → BeginsAt n.who (session_of input) (post n.posts (session_of input)) (kept_at n.kept (session_of input)) input given left)
    → n'.who ≡ n.who → session_of input < length n.posts → length links' ≡ length links
    → IsWholeStep (λ (l : FailingState). Some l.accepted) (λ (l : FailingState). Some l.breaks) (λ (l : FailingState). l.faults)
    (kind_of n.who) Begins n.posts n'.posts (session_of input) links links' result
    → AreSwept n'.posts (slice_set n.kept (session_of input) left) n'.kept
    → TakesOver links links' n n' input
takes_over n n' input links links' left Begins result begins same lt long whole swept notices = record {
  given = whole.given;
  left = left;
  begins = begins whole.given whole.cause whole.begins;
  stepped = failing_steps n n' (session_of input) whole.given links links' _ same lt long whole.steps notices;
  swept = swept;
}

-- of a control node
pub control_takes : (c c' : control.Core) (input : Input) (links links' : List FailingState) (left : List ℕ)
    (result : Result (Stepped NodeCause) NodeFault) → IsVacated c → is_retired c.plan (session_of input) ≡ false → c'.plan ≡ c.plan
    → session_of input < length c.posts → length links' ≡ length links
    → IsWholeStep (λ (l : FailingState). Some l.accepted) (λ (l : FailingState). Some l.breaks) (λ (l : FailingState). l.faults)
    (wanting.kind c.plan)
    (λ given cause. BeginsKeeping c.plan (session_of input) (post c.posts (session_of input)) (kept_at c.kept (session_of input)) input given cause left)
    c.posts c'.posts (session_of input) links links' result
    → AreSwept c'.posts (slice_set c.kept (session_of input) left) c'.kept
    → TakesOver links links' (controlled c) (controlled c') input × IsVacated c'
control_takes c c' input links links' left result vacated stays same lt long whole swept =
    let i = session_of input in (
      λ notices. record {
        given = whole.given;
        left = left;
        begins = (whole.cause, begins_alike c.plan i (post c.posts i) (kept_at c.kept i) input whole.given whole.cause left stays whole.begins);
        stepped = failing_steps (controlled c) (controlled c') i whole.given links links' _ (ap (λ (plan : ControlPlan). Controlling (controls_of plan)) same) lt long
            (node_steps c.plan c.posts c'.posts vacated.none i stays whole.given links links' _ whole.steps) notices;
        swept = swept;
      },
      record {
        none = λ j gone. none_after c.plan c.posts c'.posts vacated.none i stays whole.given links links' _ whole.steps j
            (ap (λ (plan : ControlPlan). is_retired plan j) (sym same) ∙ gone);
      },
    )

pub fresh_vacated : (c : control.Core) (plan : ControlPlan) → c ≡ control.fresh plan → IsVacated c
fresh_vacated c plan is =
    record { none = λ i gone. ap (λ (n : control.Core). post n.posts i) is ∙ none_fresh (control.sessions plan) i }

-- a step that did not fail found memory
pub never_failed : {T : Type 0} (result : Result T NodeFault) (failed : Bool) → (result ≡ Err NoMemory → failed ≡ true) → failed ≡ false
    → result ≢ Err NoMemory
never_failed result failed fails works none = let both : true ≡ false = sym (fails none) ∙ works in cc

-- ---- how many sessions a node has
pub named : (nodes : List NodeId) → length (names_of nodes) ≡ length nodes
named [] = refl
named (n ∷ nodes) = ap suc (named nodes)

pub sessions_of_config : (x : Checked) → length (others_of (Configuring x)) ≡ configuration.sessions x
sessions_of_config x = named x.topology.controllers

pub sessions_of_agent : (plan : AgentPlan) → length (others_of (Forwarding plan)) ≡ agent.sessions plan
sessions_of_agent plan = named plan.controllers

-- ---- a node with nothing
pub nothings_are : {A : Type 0} (n : ℕ) (xs : List A) → length xs ≡ n → nothings n ≡ all_of nothing xs
nothings_are zero [] h = refl
nothings_are zero (x ∷ xs) h = absurd (omega arith)
nothings_are (suc n) [] h = absurd (omega arith)
nothings_are (suc n) (x ∷ xs) h = ap (λ (ps : List Post). nothing ∷ ps) (nothings_are n xs (omega arith))

pub as_long : {A B : Type 0} (b : B) (xs : List A) → length (all_of b xs) ≡ length xs
as_long b [] = refl
as_long b (x ∷ xs) = ap suc (as_long b xs)

-- nothing is kept
pub nothing_is_kept : {A : Type 0} (n : ℕ) (xs : List A) → length xs ≡ n → nothing_kept n ≡ all_of [] xs
nothing_is_kept zero [] h = refl
nothing_is_kept zero (x ∷ xs) h = absurd (omega arith)
nothing_is_kept (suc n) [] h = absurd (omega arith)
nothing_is_kept (suc n) (x ∷ xs) h = ap (λ (ks : List (List ℕ)). [] ∷ ks) (nothing_is_kept n xs (omega arith))

-- ends that are all closed, of as many sessions as there were
module _ (who : Who) (posts : List Post) (kept : List (List ℕ)) (sessions : ℕ) (many : length (others_of who) ≡ sessions)
    (posts_long : length posts ≡ length (others_of who)) (kept_long : length kept ≡ length (others_of who)) where
  pub fresh_is : (n : Inner) → n ≡ record { who = who; posts = nothings sessions; kept = nothing_kept sessions }
      → n ≡ emptied_inner (record { who = who; posts = posts; kept = kept })
  fresh_is n is =
      let none = nothings_are sessions posts (posts_long ∙ many) in
      let nothing_left = nothing_is_kept sessions kept (kept_long ∙ many) in
      let same : record { who = who; posts = nothings sessions; kept = nothing_kept sessions } ≡ emptied_inner (record { who = who; posts = posts; kept = kept }) =
      λ i. record { who = who; posts = none i; kept = nothing_left i } in
      is ∙ same

  pub fresh_long : (n : Inner) → n ≡ record { who = who; posts = nothings sessions; kept = nothing_kept sessions }
      → (length n.posts ≡ length posts) × (length n.kept ≡ length kept)
  fresh_long n is = (
    ap (λ (m : Inner). length m.posts) (fresh_is n is) ∙ as_long nothing posts,
    ap (λ (m : Inner). length m.kept) (fresh_is n is) ∙ as_long [] kept,
  )

pub control_emptied : (c c' : control.Core) → c' ≡ control.fresh c.plan → length c.posts ≡ length (others_of (Controlling (controls_of c.plan)))
    → length c.kept ≡ length (others_of (Controlling (controls_of c.plan))) → controlled c' ≡ emptied_inner (controlled c)
control_emptied c c' is long kept =
    fresh_is (Controlling (controls_of c.plan)) c.posts c.kept (control.sessions c.plan) (sessions_there c.plan) long kept (controlled c') (ap controlled is)

pub agent_emptied : (a a' : agent.Core) → a' ≡ agent.fresh a.plan → length a.posts ≡ length (others_of (Forwarding a.plan))
    → length a.kept ≡ length (others_of (Forwarding a.plan)) → forwarded a' ≡ emptied_inner (forwarded a)
agent_emptied a a' is long kept =
    fresh_is (Forwarding a.plan) a.posts a.kept (agent.sessions a.plan) (sessions_of_agent a.plan) long kept (forwarded a') (ap forwarded is)

-- as many sessions as there were
pub config_long : (x y : Checked) (c' : configuration.Core) (posts : List Post) (kept : List (List ℕ)) → c' ≡ configuration.fresh y
    → y.topology.controllers ≡ x.topology.controllers → length posts ≡ length (others_of (Configuring x)) → length kept ≡ length (others_of (Configuring x))
    → (length c'.posts ≡ length posts) × (length c'.kept ≡ length kept)
config_long x y c' posts kept is same long kept_long =
    let as_many : length (others_of (Configuring x)) ≡ length (others_of (Configuring y)) =
    ap (λ (cs : List NodeId). length (names_of cs)) (sym same) in
    fresh_long (Configuring y) posts kept (configuration.sessions y) (sessions_of_config y) (long ∙ as_many) (kept_long ∙ as_many) (configured c') (ap configured is)

pub control_long : (c c' : control.Core) → c' ≡ control.fresh c.plan → length c.posts ≡ length (others_of (Controlling (controls_of c.plan)))
    → length c.kept ≡ length (others_of (Controlling (controls_of c.plan))) → (length c'.posts ≡ length c.posts) × (length c'.kept ≡ length c.kept)
control_long c c' is long kept =
    fresh_long (Controlling (controls_of c.plan)) c.posts c.kept (control.sessions c.plan) (sessions_there c.plan) long kept (controlled c') (ap controlled is)

pub agent_long : (a a' : agent.Core) → a' ≡ agent.fresh a.plan → length a.posts ≡ length (others_of (Forwarding a.plan))
    → length a.kept ≡ length (others_of (Forwarding a.plan)) → (length a'.posts ≡ length a.posts) × (length a'.kept ≡ length a.kept)
agent_long a a' is long kept =
    fresh_long (Forwarding a.plan) a.posts a.kept (agent.sessions a.plan) (sessions_of_agent a.plan) long kept (forwarded a') (ap forwarded is)

-- ---- another configuration
pub control_passes : (c c' : control.Core) (links links' : List FailingState) (lowest : Option ℕ) → AreRetired c.plan → IsVacated c
    → c'.plan ≡ c.plan → 0 < length c.posts → length links' ≡ length links
    → Steps (wanting.kind c.plan) (λ (l : FailingState). Some l.accepted) (λ (l : FailingState). Some l.breaks) (λ (l : FailingState). l.faults)
    c.posts c'.posts 0 (as_it_is c.posts) links links' lowest
    → AreSwept c'.posts c.kept c'.kept
    → PassesOver links links' (controlled c) (controlled c') × IsVacated c'
control_passes c c' links links' lowest are vacated same some long steps swept =
    let stays = first_stays c.plan are in (
      λ notices. record {
        stepped = failing_steps (controlled c) (controlled c') 0 (as_it_is c.posts) links links' lowest
            (ap (λ (plan : ControlPlan). Controlling (controls_of plan)) same) some long
            (node_steps c.plan c.posts c'.posts vacated.none 0 stays (as_it_is c.posts) links links' lowest steps) notices;
        swept = swept;
      },
      record {
        none = λ j gone. none_after c.plan c.posts c'.posts vacated.none 0 stays (as_it_is c.posts) links links' lowest steps j
            (ap (λ (plan : ControlPlan). is_retired plan j) (sym same) ∙ gone);
      },
    )

pub sets_over : (c c' : configuration.Core) (y : Checked) (links links' : List FailingState) (lowest : Option ℕ)
    → 0 < length c.posts → length links' ≡ length links → c'.setup ≡ y
    → Steps (configuration.kind y) (λ (l : FailingState). Some l.accepted) (λ (l : FailingState). Some l.breaks) (λ (l : FailingState). l.faults)
    c.posts c'.posts 0 (as_it_is c.posts) links links' lowest
    → AreSwept c'.posts c.kept c'.kept
    → SetsOver links links' (configured c) (configured c') y
sets_over c c' y links links' lowest some long is steps swept =
    let set_to : Inner = record (configured c) { who = Configuring y } in (
      λ notices. failing_steps set_to (configured c') 0 (as_it_is c.posts) links links' lowest (ap Configuring is) some long steps notices,
      swept,
    )
