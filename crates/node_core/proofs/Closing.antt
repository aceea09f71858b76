-- The cause for which a step closes a session is that of its input.
use Rattle.std.specs.Prelude.{◌≡◌, ◌≢◌, ℕ, List}
use Rattle.std.specs.declared.option.Option.{Option}
use Rattle.std.specs.declared.option.Option.TheVariants.{Some, None}
use Rattle.std.specs.declared.result.Result.{Result}
use Rattle.std.specs.declared.result.Result.TheVariants.{Ok, Err}
use Rattle.std.proofs.Common.{refl, sym, ◌∙◌, ap}
use Rattle.ov_link.specs.declared.step.Stepped.{Stepped}
use Rattle.ov_link.specs.declared.step.Stepped.TheVariants.{Done, Closed}
use Rattle.ov_link.specs.declared.step.NodeFault.{NodeFault}
use Rattle.ov_link.specs.declared.step.NodeFault.TheVariants.{NoMemory}
use Rattle.node_model.specs.Step.{Beginning, NodeKind, Post}
use Rattle.node_core.specs.Answers.{answer}
use Rattle.node_core.specs.Whole.{IsWholeStep}

module _ {C : Type 0} where
  abbrev cause_in : Result (Stepped C) NodeFault → Option C
  cause_in (Ok (Closed s c)) = Some c
  cause_in (Ok Done) = None
  cause_in (Err f) = None

  answered : (session : ℕ) (cause : Option C) → cause_in (answer None session cause) ≡ cause
  answered session None = refl
  answered session (Some c) = refl

module _ {L C : Type 0} (accepted : L → Option (List (List ℕ))) (breaks : L → Option (List ℕ)) (faults : L → ℕ)
    (k : NodeKind) (Begins : Beginning → Option C → Type 0) (posts after : List Post) (session : ℕ) (links left : List L) where
  -- a cause that no input brings closes no session
  pub never_closed : (c : C) → ((given : Beginning) (cause : Option C) → Begins given cause → cause ≢ Some c)
      → (result : Result (Stepped C) NodeFault)
      → (result ≢ Err NoMemory → IsWholeStep accepted breaks faults k Begins posts after session links left result)
      → (s : ℕ) → result ≢ Ok (Closed s c)
  never_closed c never (Ok stepped) whole s e =
      let w = whole (λ x. cc) in
      never w.given w.cause w.begins (sym (answered session w.cause) ∙ ap cause_in (sym w.answers) ∙ ap cause_in e)
  never_closed c never (Err f) whole s e = cc
