-- The lines of a replay, step by step.
use Rattle.std.proofs.Common.{◌≡◌, ◌∙◌, ℕ, ◌+◌, List, ◌∷◌, ◌++◌, ap, sym}
use Rattle.flow_state.specs.declared.step.FlowStep.{FlowStep}
use Rattle.flow_state.specs.Playing.{Playing, answer_in, answers_in, played}
use Rattle.flow_state.specs.declared.answer.FlowAnswer.{FlowAnswer}
use Rattle.flow_state.specs.Lines.{flow_line, lines_from}

-- the lines of some steps are that of the first and those of the others
pub first_line : (n : ℕ) (xs more : List FlowStep) (x : FlowStep) (s t : Playing) (a : FlowAnswer) → xs ≡ x ∷ more
    → a ≡ answer_in x s → t ≡ played x s
    → lines_from n (answers_in xs s) ≡ flow_line n a ++ lines_from (n + 1) (answers_in more t)
first_line n xs more x s t a split answers next =
    ap (λ (ys : List FlowStep). lines_from n (answers_in ys s)) split
    ∙ (λ k. flow_line n (sym answers k) ++ lines_from (n + 1) (answers_in more (sym next k)))
