use Rattle.std.proofs.Common.{◌≡◌, ◌+◌, List, ◌∷◌, drop, true, subst, ◌∙◌, arith}
use Rattle.std.specs.List.{list_all}
use Rattle.std.proofs.lemmas.Grind.{common_steps}
use Rattle.std.proofs.lemmas.Bool.{and_parts}
use Rattle.ov_io.proofs.PieceLemmas.{cause_from, ends_cut, ends_whole, on_err, took_nothing, way_breaks, way_cut, way_goes_on}
use Rattle.config_types.specs.Form.{has_edit_form}
use Rattle.config_types.specs.declared.edit.Edit.{Edit}
use Rattle.hitless_answers.proofs.Telling.{first_in}
use Rattle.hitless_answers.proofs.writing.write_edits.Goals as goal

pub returns-in_err-judgement-clause-front : goal.returns-in_err-judgement-clause-front
returns-in_err-judgement-clause-front g c =
    on_err c.from_residual.result _ (way_cut _ _ _ _ _ _ c.loop-index.invariant.way (took_nothing _ _))

pub returns-in_err-write_judgement-clause-front : goal.returns-in_err-write_judgement-clause-front
returns-in_err-write_judgement-clause-front g c =
    let i = c.loop-index.index in
    let edits = c.args.edits.now in
    let split : drop i edits ≡ c.index-edits-index.result ∷ drop (i + 1) edits = grind (arith, common_steps) in
    on_err c.from_residual-in_err-write_judgement.result _
    (way_breaks _ _ _ _ _ _ _ _ c.loop-index.invariant.way
    (first_in c.args.form (i + 1) (drop i edits) (drop (i + 1) edits) _ _ _ _ _ split c.in_ok-judgement.ensures.judgement c.in_ok-judgement.ensures.next c.config.ensures)
    c.in_err-write_judgement.ensures.front)

pub loop-index-preserved : goal.loop-index-preserved
loop-index-preserved g c =
    let i = c.loop-index.index in
    let edits = c.args.edits.now in
    let split : drop i edits ≡ c.index-edits-index.result ∷ drop (i + 1) edits = grind (arith, common_steps) in
    record {
      way = way_goes_on _ _ _ _ _ _ _ _ _ c.loop-index.invariant.way
          (first_in c.args.form (i + 1) (drop i edits) (drop (i + 1) edits) _ _ _ _ _ split c.in_ok-judgement.ensures.judgement c.in_ok-judgement.ensures.next c.config.ensures)
          c.in_ok-write_judgement.ensures.ok;
      form = (and_parts (has_edit_form c.index-edits-index.result) (list_all has_edit_form (drop (i + 1) edits))
          (subst (λ (xs : List Edit). list_all has_edit_form xs ≡ true) split c.loop-index.invariant.form)).1;
      kept = c.in_ok-write_judgement.ensures.cause ∙ c.loop-index.invariant.kept;
    }

pub returns-clause-ok : goal.returns-clause-ok
returns-clause-ok g c =
    ends_whole c.write_gathered.result _ _ _ _ _ _ c.loop-index.invariant.way (grind (arith, common_steps)) c.write_gathered.ensures.ok

pub returns-clause-front : goal.returns-clause-front
returns-clause-front g c =
    ends_cut c.write_gathered.result _ _ _ _ _ _ c.loop-index.invariant.way c.write_gathered.ensures.front

pub returns-clause-cause : goal.returns-clause-cause
returns-clause-cause g c = cause_from c.write_gathered.result _ _ _ c.loop-index.invariant.kept c.write_gathered.ensures.cause
