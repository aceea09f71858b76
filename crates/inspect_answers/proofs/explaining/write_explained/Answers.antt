use Rattle.std.proofs.Common.{◌++◌, ℕ, List, flat_map}
use Rattle.ov_io.proofs.PieceLemmas.{on_err}
use Rattle.compile_answers.proofs.Ways.{err_then, front_first, front_then, ok_then}
use Rattle.inspect_changes.specs.Report.Outcomes.{outcome_line}
use Rattle.inspect_rules.specs.CauseLines.{cause_line}
use Rattle.inspect_walks.specs.Lines.{step_line}
use Rattle.inspect_answers.proofs.explaining.write_explained.Goals as goal

pub returns-in_err-write_one-clause-front : goal.returns-in_err-write_one-clause-front
returns-in_err-write_one-clause-front g c =
    let outcome : List ℕ = outcome_line c.args.number c.args.outcome.now in
    let rest : List ℕ = flat_map (cause_line c.args.number) c.args.causes.now ++ flat_map (step_line c.args.number) c.args.walk.now in
    on_err c.from_residual.result _ (front_first _ _ c.args.gathered.now outcome rest c.in_err-write_one.ensures.front)

pub returns-in_err-write_each-clause-front : goal.returns-in_err-write_each-clause-front
returns-in_err-write_each-clause-front g c =
    let outcome : List ℕ = outcome_line c.args.number c.args.outcome.now in
    let causes : List ℕ = flat_map (cause_line c.args.number) c.args.causes.now in
    let walk : List ℕ = flat_map (step_line c.args.number) c.args.walk.now in
    on_err c.from_residual-in_err-write_each.result _
    (front_then _ _ _ c.args.gathered.now c.write_one.new.gathered outcome (causes ++ walk) c.in_ok-write_one.ensures.ok
    (front_first _ _ c.write_one.new.gathered causes walk c.in_err-write_each.ensures.front))

pub returns-clause-ok : goal.returns-clause-ok
returns-clause-ok g c =
    let outcome : List ℕ = outcome_line c.args.number c.args.outcome.now in
    let causes : List ℕ = flat_map (cause_line c.args.number) c.args.causes.now in
    let walk : List ℕ = flat_map (step_line c.args.number) c.args.walk.now in
    ok_then c.write_each-2.result _ _ _ c.args.gathered.now c.write_one.new.gathered _ outcome (causes ++ walk) c.in_ok-write_one.ensures.ok
    (ok_then c.write_each-2.result _ _ _ c.write_one.new.gathered c.write_each.new.gathered _ causes walk c.in_ok-write_each.ensures.ok c.write_each-2.ensures.ok)

pub returns-clause-front : goal.returns-clause-front
returns-clause-front g c =
    let outcome : List ℕ = outcome_line c.args.number c.args.outcome.now in
    let causes : List ℕ = flat_map (cause_line c.args.number) c.args.causes.now in
    let walk : List ℕ = flat_map (step_line c.args.number) c.args.walk.now in
    err_then c.write_each-2.result _ _ _ c.args.gathered.now c.write_one.new.gathered outcome (causes ++ walk) c.in_ok-write_one.ensures.ok
    (err_then c.write_each-2.result _ _ _ c.write_one.new.gathered c.write_each.new.gathered causes walk c.in_ok-write_each.ensures.ok c.write_each-2.ensures.front)
