-- A whole step of a node, as it is answered.
use Rattle.std.specs.Prelude.{◌≡◌, ℕ, List}
use Rattle.std.specs.declared.option.Option.{Option}
use Rattle.std.specs.declared.result.Result.{Result}
use Rattle.ov_link.specs.declared.step.Input.{Input}
use Rattle.ov_link.specs.declared.step.Input.TheVariants as input
use Rattle.ov_link.specs.declared.step.Stepped.{Stepped}
use Rattle.ov_link.specs.declared.step.NodeFault.{NodeFault}
use Rattle.node_model.specs.Step.{Beginning, NodeKind, Post, Steps}
use Rattle.node_core.specs.Answers.{answer, failed_link}
use Rattle.node_core.specs.Naming.{Names}

abbrev pub session_of : Input → ℕ
session_of (input.Opened session) = session
session_of (input.Bytes session bytes) = session
session_of (input.Closed session) = session

-- what is asked of an input: a session is opened where its end is not live, and else it is live
abbrev pub Comes : (ℕ → Type 0) → (ℕ → Type 0) → Input → Type 0
Comes IsLive IsIdle (input.Opened session) = IsIdle session
Comes IsLive IsIdle (input.Bytes session bytes) = IsLive session
Comes IsLive IsIdle (input.Closed session) = IsLive session

module _ {L : Type 0} (accepted : L → Option (List (List ℕ))) (breaks : L → Option (List ℕ)) (faults : L → ℕ) where
  -- an input makes this of its session, perhaps with a cause for which it goes down; then the step is taken, and
  -- answered by the lowest link that failed, else by the cause
  pub record IsWholeStep {C : Type 0} (k : NodeKind) (Begins : Beginning → Option C → Type 0) (posts posts' : List Post)
      (session : ℕ) (links links' : List L) (result : Result (Stepped C) NodeFault) : Type 0 where
    pub given : Beginning
    pub cause : Option C
    pub begins : Begins given cause
    pub steps : Steps k accepted breaks faults posts posts' session given links links' (failed_link result)
    pub names : Names faults links links' (failed_link result)
    pub answers : result ≡ answer (failed_link result) session cause
