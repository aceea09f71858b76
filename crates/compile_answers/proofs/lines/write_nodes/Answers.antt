use Rattle.std.proofs.Common.{◌≡◌, ◌++◌, ℕ, List, [], subst, arith}
use Rattle.std.proofs.lemmas.Grind.{common_steps}
use Rattle.std.specs.Prelude.{OnOk, OnErr}
use Rattle.ov_io.specs.Inputs.{TookFront}
use Rattle.ov_io.specs.Pieces.{IsOnItsWay}
use Rattle.ov_io.proofs.PieceLemmas.{on_err}
use Rattle.compile_answers.specs.Lines.{agents_text, controls_text, nodes_text}
use Rattle.compile_answers.proofs.Ways.{front_first, ok_then, err_then}
use Rattle.compile_answers.proofs.lines.write_nodes.Goals as goal

pub returns-in_err-write_controls-clause-front : goal.returns-in_err-write_controls-clause-front
returns-in_err-write_controls-clause-front g c =
    let controls = controls_text c.as_slice-controllers.result.now c.as_slice-controls.result.now in
    let agents = agents_text c.as_slice-nodes.result.now c.as_slice-agents.result.now in
    let whole : c.args.gathered.now ++ (controls ++ agents) ≡ c.args.gathered.now ++ nodes_text c.args.valid.now c.args.tables.now = grind (arith, common_steps) in
    on_err c.from_residual.result _
    (subst (λ (t : List ℕ). TookFront (g.K.Sink.taken c.args.sink.now) (g.K.Sink.taken c.write_controls.new.sink) t) whole
    (front_first _ _ c.args.gathered.now controls agents c.in_err-write_controls.ensures.front))

pub returns-clause-ok : goal.returns-clause-ok
returns-clause-ok g c =
    let controls = controls_text c.as_slice-controllers.result.now c.as_slice-controls.result.now in
    let agents = agents_text c.as_slice-nodes.result.now c.as_slice-agents.result.now in
    let whole : c.args.gathered.now ++ (controls ++ agents) ≡ c.args.gathered.now ++ nodes_text c.args.valid.now c.args.tables.now = grind (arith, common_steps) in
    subst (λ (t : List ℕ). OnOk c.write_agents.result
    (IsOnItsWay (g.K.Sink.taken c.args.sink.now) (g.K.Sink.taken c.write_agents.new.sink) c.write_agents.new.gathered [] t)) whole
    (ok_then c.write_agents.result _ _ _ c.args.gathered.now c.write_controls.new.gathered _ controls agents c.in_ok-write_controls.ensures.ok c.write_agents.ensures.ok)

pub returns-clause-front : goal.returns-clause-front
returns-clause-front g c =
    let controls = controls_text c.as_slice-controllers.result.now c.as_slice-controls.result.now in
    let agents = agents_text c.as_slice-nodes.result.now c.as_slice-agents.result.now in
    let whole : c.args.gathered.now ++ (controls ++ agents) ≡ c.args.gathered.now ++ nodes_text c.args.valid.now c.args.tables.now = grind (arith, common_steps) in
    subst (λ (t : List ℕ). OnErr c.write_agents.result
    (TookFront (g.K.Sink.taken c.args.sink.now) (g.K.Sink.taken c.write_agents.new.sink) t)) whole
    (err_then c.write_agents.result _ _ _ c.args.gathered.now c.write_controls.new.gathered controls agents c.in_ok-write_controls.ensures.ok c.write_agents.ensures.front)
