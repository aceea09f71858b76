use Rattle.std.proofs.Common.{◌++◌, ℕ, List, flat_map}
use Rattle.ov_io.proofs.PieceLemmas.{on_err}
use Rattle.compile_answers.proofs.Ways.{front_first, front_then, ok_then, err_then}
use Rattle.inspect_json.specs.ChangeLines.{came_in, difference_in, went_in}
use Rattle.inspect_answers.proofs.diffing.write_lists.Goals as goal

pub returns-in_err-write_each-clause-front : goal.returns-in_err-write_each-clause-front
returns-in_err-write_each-clause-front g c =
    let went : List ℕ = flat_map (went_in c.args.lines.now.form c.args.lines.now.before.now) c.args.went.now in
    let rest : List ℕ = flat_map (came_in c.args.lines.now.form c.args.lines.now.after.now) c.args.came.now ++ flat_map (difference_in c.args.lines.now.form c.args.lines.now.before.now c.args.lines.now.after.now) c.args.differences.now in
    on_err c.from_residual.result _ (front_first _ _ c.args.gathered.now went rest c.in_err-write_each.ensures.front)

pub returns-in_err-write_each-2-clause-front : goal.returns-in_err-write_each-2-clause-front
returns-in_err-write_each-2-clause-front g c =
    let went : List ℕ = flat_map (went_in c.args.lines.now.form c.args.lines.now.before.now) c.args.went.now in
    let came : List ℕ = flat_map (came_in c.args.lines.now.form c.args.lines.now.after.now) c.args.came.now in
    let differences : List ℕ = flat_map (difference_in c.args.lines.now.form c.args.lines.now.before.now c.args.lines.now.after.now) c.args.differences.now in
    on_err c.from_residual-in_err-write_each-2.result _
    (front_then _ _ _ c.args.gathered.now c.write_each.new.gathered went (came ++ differences) c.in_ok-write_each.ensures.ok
    (front_first _ _ c.write_each.new.gathered came differences c.in_err-write_each-2.ensures.front))

pub returns-clause-ok : goal.returns-clause-ok
returns-clause-ok g c =
    let went : List ℕ = flat_map (went_in c.args.lines.now.form c.args.lines.now.before.now) c.args.went.now in
    let came : List ℕ = flat_map (came_in c.args.lines.now.form c.args.lines.now.after.now) c.args.came.now in
    let differences : List ℕ = flat_map (difference_in c.args.lines.now.form c.args.lines.now.before.now c.args.lines.now.after.now) c.args.differences.now in
    ok_then c.write_each-3.result _ _ _ c.args.gathered.now c.write_each.new.gathered _ went (came ++ differences) c.in_ok-write_each.ensures.ok
    (ok_then c.write_each-3.result _ _ _ c.write_each.new.gathered c.write_each-2.new.gathered _ came differences c.in_ok-write_each-2.ensures.ok c.write_each-3.ensures.ok)

pub returns-clause-front : goal.returns-clause-front
returns-clause-front g c =
    let went : List ℕ = flat_map (went_in c.args.lines.now.form c.args.lines.now.before.now) c.args.went.now in
    let came : List ℕ = flat_map (came_in c.args.lines.now.form c.args.lines.now.after.now) c.args.came.now in
    let differences : List ℕ = flat_map (difference_in c.args.lines.now.form c.args.lines.now.before.now c.args.lines.now.after.now) c.args.differences.now in
    err_then c.write_each-3.result _ _ _ c.args.gathered.now c.write_each.new.gathered went (came ++ differences) c.in_ok-write_each.ensures.ok
    (err_then c.write_each-3.result _ _ _ c.write_each.new.gathered c.write_each-2.new.gathered came differences c.in_ok-write_each-2.ensures.ok c.write_each-3.ensures.front)
