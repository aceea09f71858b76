use Rattle.std.proofs.Common.{◌++◌, ℕ, List, [], refl, ap, subst}
use Rattle.ov_io.specs.Inputs.{TookFront}
use Rattle.ov_io.specs.Pieces.{IsOnItsWay}
use Rattle.ov_io.proofs.PieceLemmas.{ends_cut, ends_whole, on_err}
use Rattle.schema_transform.specs.TransformModel.Compiled.{compiled_tables}
use Rattle.compile_answers.specs.Lines.{compile_text, nodes_text}
use Rattle.compile_answers.proofs.Ways.{front_first, front_then, way_then}
use Rattle.compile_answers.proofs.lines.write_tables.Goals as goal

pub returns-in_err-write_low-clause-front : goal.returns-in_err-write_low-clause-front
unfolding compile_text
returns-in_err-write_low-clause-front g c =
    let x = c.args.valid.now in
    let stop = front_first _ _ _ _ (nodes_text x (compiled_tables x)) c.in_err-write_low.ensures.front in
    on_err c.from_residual.result _
    (subst (λ (t : List ℕ). TookFront (g.K.Sink.taken c.args.sink.now) (g.K.Sink.taken c.write_low.new.sink) t)
    (ap (λ (t : List ℕ). t ++ compile_text x) c.new-gathered.ensures) stop)

pub returns-in_err-write_compiled-clause-front : goal.returns-in_err-write_compiled-clause-front
unfolding compile_text
returns-in_err-write_compiled-clause-front g c =
    let x = c.args.valid.now in
    let stop = front_then _ _ _ _ _ _ _ c.in_ok-write_low.ensures.ok c.in_err-write_compiled.ensures.front in
    on_err c.from_residual-in_err-write_compiled.result _
    (subst (λ (t : List ℕ). TookFront (g.K.Sink.taken c.args.sink.now) (g.K.Sink.taken c.write_compiled.new.sink) t)
    (ap (λ (t : List ℕ). t ++ compile_text x) c.new-gathered.ensures) stop)

pub returns-clause-ok : goal.returns-clause-ok
unfolding compile_text
returns-clause-ok g c =
    let x = c.args.valid.now in
    let way = way_then _ _ _ _ _ _ _ _ c.in_ok-write_low.ensures.ok c.in_ok-write_compiled.ensures.ok in
    let whole = subst (λ (t : List ℕ). IsOnItsWay (g.K.Sink.taken c.args.sink.now) (g.K.Sink.taken c.write_compiled.new.sink)
    c.write_compiled.new.gathered [] t) (ap (λ (t : List ℕ). t ++ compile_text x) c.new-gathered.ensures) way in
    ends_whole c.write_gathered.result _ _ _ _ _ _ whole refl c.write_gathered.ensures.ok

pub returns-clause-front : goal.returns-clause-front
unfolding compile_text
returns-clause-front g c =
    let x = c.args.valid.now in
    let way = way_then _ _ _ _ _ _ _ _ c.in_ok-write_low.ensures.ok c.in_ok-write_compiled.ensures.ok in
    let whole = subst (λ (t : List ℕ). IsOnItsWay (g.K.Sink.taken c.args.sink.now) (g.K.Sink.taken c.write_compiled.new.sink)
    c.write_compiled.new.gathered [] t) (ap (λ (t : List ℕ). t ++ compile_text x) c.new-gathered.ensures) way in
    ends_cut c.write_gathered.result _ _ _ _ _ _ whole c.write_gathered.ensures.front
