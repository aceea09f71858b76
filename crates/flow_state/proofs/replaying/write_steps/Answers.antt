use Rattle.std.proofs.Common.{◌≡◌, ◌+◌, ℕ, List, [], ◌∷◌, drop, true, subst, ◌∙◌, arith}
use Rattle.std.specs.List.{list_all}
use Rattle.std.proofs.lemmas.Grind.{common_steps}
use Rattle.std.proofs.lemmas.Bool.{and_parts}
use Rattle.ov_io.proofs.PieceLemmas.{cause_from, ends_cut, ends_whole, on_err, took_nothing, way_breaks, way_cut, way_goes_on}
use Rattle.ov_io.specs.Inputs.{TookFront}
use Rattle.ov_io.specs.Pieces.{IsOnItsWay}
use Rattle.flow_state.specs.Steps.{has_step_form}
use Rattle.flow_state.specs.declared.step.FlowStep.{FlowStep}
use Rattle.flow_state.proofs.Telling.{first_line}
use Rattle.flow_state.proofs.replaying.write_steps.Goals as goal

pub returns-in_err-answer-clause-front : goal.returns-in_err-answer-clause-front
returns-in_err-answer-clause-front g c =
    on_err c.from_residual.result _ (way_cut _ _ _ _ _ _ c.loop-index.invariant.way (took_nothing _ _))

pub returns-in_err-push_answer-clause-front : goal.returns-in_err-push_answer-clause-front
returns-in_err-push_answer-clause-front g c =
    on_err c.from_residual-in_err-push_answer.result _ (way_cut _ _ _ _ _ _ c.loop-index.invariant.way (took_nothing _ _))

pub returns-in_err-write_piece-clause-front : goal.returns-in_err-write_piece-clause-front
returns-in_err-write_piece-clause-front g c =
    let i = c.loop-index.index in
    let steps = c.args.steps.now in
    let split : drop i steps ≡ c.index-steps-index.result ∷ drop (i + 1) steps = grind (arith, common_steps) in
    on_err c.from_residual-in_err-write_piece.result _
    (way_breaks _ _ _ _ _ _ _ _ c.loop-index.invariant.way
    (first_line (i + 1) (drop i steps) (drop (i + 1) steps) _ _ _ _ split c.in_ok-answer.ensures.answer c.in_ok-answer.ensures.next)
    (subst (λ (t : List ℕ). TookFront (g.K.Sink.taken c.loop-index.sink) (g.K.Sink.taken c.write_piece.new.sink) t)
    c.in_ok-push_answer.ensures.ok c.in_err-write_piece.ensures.front))

pub loop-index-preserved : goal.loop-index-preserved
loop-index-preserved g c =
    let i = c.loop-index.index in
    let steps = c.args.steps.now in
    let split : drop i steps ≡ c.index-steps-index.result ∷ drop (i + 1) steps = grind (arith, common_steps) in
    record {
      way = way_goes_on _ _ _ _ _ _ _ _ _ c.loop-index.invariant.way
          (first_line (i + 1) (drop i steps) (drop (i + 1) steps) _ _ _ _ split c.in_ok-answer.ensures.answer c.in_ok-answer.ensures.next)
          (subst (λ (t : List ℕ). IsOnItsWay (g.K.Sink.taken c.loop-index.sink) (g.K.Sink.taken c.write_piece.new.sink) c.write_piece.new.gathered [] t)
          c.in_ok-push_answer.ensures.ok c.in_ok-write_piece.ensures.ok);
      form = (and_parts (has_step_form c.index-steps-index.result) (list_all has_step_form (drop (i + 1) steps))
          (subst (λ (xs : List FlowStep). list_all has_step_form xs ≡ true) split c.loop-index.invariant.form)).1;
      kept = c.in_ok-write_piece.ensures.cause ∙ c.loop-index.invariant.kept;
    }

pub returns-clause-ok : goal.returns-clause-ok
returns-clause-ok g c =
    ends_whole c.write_gathered.result _ _ _ _ _ _ c.loop-index.invariant.way (grind (arith, common_steps)) c.write_gathered.ensures.ok

pub returns-clause-front : goal.returns-clause-front
returns-clause-front g c =
    ends_cut c.write_gathered.result _ _ _ _ _ _ c.loop-index.invariant.way c.write_gathered.ensures.front

pub returns-clause-cause : goal.returns-clause-cause
returns-clause-cause g c = cause_from c.write_gathered.result _ _ _ c.loop-index.invariant.kept c.write_gathered.ensures.cause
