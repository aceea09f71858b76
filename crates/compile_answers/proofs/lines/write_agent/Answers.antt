use Rattle.std.proofs.Common.{◌≡◌, ◌++◌, ℕ, List, [], flat_map, subst, arith}
use Rattle.std.proofs.lemmas.Grind.{common_steps}
use Rattle.std.specs.Prelude.{OnOk, OnErr}
use Rattle.ov_io.specs.Inputs.{TookFront}
use Rattle.ov_io.specs.Pieces.{IsOnItsWay}
use Rattle.ov_io.proofs.PieceLemmas.{on_err}
use Rattle.report.specs.Rows.{agent_acl_lines, agent_label_line, agent_lines, agent_row_line}
use Rattle.compile_answers.proofs.Ways.{front_first, front_then, ok_then, err_then}
use Rattle.compile_answers.proofs.lines.write_agent.Goals as goal

pub returns-in_err-write_each-clause-front : goal.returns-in_err-write_each-clause-front
returns-in_err-write_each-clause-front g c =
    let n = c.args.node.now in
    let labels = flat_map (agent_label_line n) c.as_slice-labels.result.now in
    let objects = flat_map (agent_acl_lines n) c.as_slice-objects.result.now in
    let routes = flat_map (agent_row_line n) c.as_slice-routes.result.now in
    let rest = objects ++ routes in
    let whole : c.args.gathered.now ++ (labels ++ rest) ≡ c.args.gathered.now ++ agent_lines n c.args.rows.now = grind (arith, common_steps) in
    on_err c.from_residual.result _
    (subst (λ (t : List ℕ). TookFront (g.K.Sink.taken c.args.sink.now) (g.K.Sink.taken c.write_each.new.sink) t) whole
    (front_first _ _ c.args.gathered.now labels rest c.in_err-write_each.ensures.front))

pub returns-in_err-write_each-2-clause-front : goal.returns-in_err-write_each-2-clause-front
returns-in_err-write_each-2-clause-front g c =
    let n = c.args.node.now in
    let labels = flat_map (agent_label_line n) c.as_slice-labels.result.now in
    let objects = flat_map (agent_acl_lines n) c.as_slice-objects.result.now in
    let routes = flat_map (agent_row_line n) c.as_slice-routes.result.now in
    let rest = objects ++ routes in
    let whole : c.args.gathered.now ++ (labels ++ rest) ≡ c.args.gathered.now ++ agent_lines n c.args.rows.now = grind (arith, common_steps) in
    on_err c.from_residual-in_err-write_each-2.result _
    (subst (λ (t : List ℕ). TookFront (g.K.Sink.taken c.args.sink.now) (g.K.Sink.taken c.write_each-2.new.sink) t) whole
    (front_then _ _ _ c.args.gathered.now c.write_each.new.gathered labels rest c.in_ok-write_each.ensures.ok
    (front_first _ _ c.write_each.new.gathered objects routes c.in_err-write_each-2.ensures.front)))

pub returns-clause-ok : goal.returns-clause-ok
returns-clause-ok g c =
    let n = c.args.node.now in
    let labels = flat_map (agent_label_line n) c.as_slice-labels.result.now in
    let objects = flat_map (agent_acl_lines n) c.as_slice-objects.result.now in
    let routes = flat_map (agent_row_line n) c.as_slice-routes.result.now in
    let rest = objects ++ routes in
    let whole : c.args.gathered.now ++ (labels ++ rest) ≡ c.args.gathered.now ++ agent_lines n c.args.rows.now = grind (arith, common_steps) in
    subst (λ (t : List ℕ). OnOk c.write_each-3.result
    (IsOnItsWay (g.K.Sink.taken c.args.sink.now) (g.K.Sink.taken c.write_each-3.new.sink) c.write_each-3.new.gathered [] t)) whole
    (ok_then c.write_each-3.result _ _ _ c.args.gathered.now c.write_each.new.gathered _ labels rest c.in_ok-write_each.ensures.ok
    (ok_then c.write_each-3.result _ _ _ c.write_each.new.gathered c.write_each-2.new.gathered _ objects routes c.in_ok-write_each-2.ensures.ok c.write_each-3.ensures.ok))

pub returns-clause-front : goal.returns-clause-front
returns-clause-front g c =
    let n = c.args.node.now in
    let labels = flat_map (agent_label_line n) c.as_slice-labels.result.now in
    let objects = flat_map (agent_acl_lines n) c.as_slice-objects.result.now in
    let routes = flat_map (agent_row_line n) c.as_slice-routes.result.now in
    let rest = objects ++ routes in
    let whole : c.args.gathered.now ++ (labels ++ rest) ≡ c.args.gathered.now ++ agent_lines n c.args.rows.now = grind (arith, common_steps) in
    subst (λ (t : List ℕ). OnErr c.write_each-3.result
    (TookFront (g.K.Sink.taken c.args.sink.now) (g.K.Sink.taken c.write_each-3.new.sink) t)) whole
    (err_then c.write_each-3.result _ _ _ c.args.gathered.now c.write_each.new.gathered labels rest c.in_ok-write_each.ensures.ok
    (err_then c.write_each-3.result _ _ _ c.write_each.new.gathered c.write_each-2.new.gathered objects routes c.in_ok-write_each-2.ensures.ok c.write_each-3.ensures.front))
