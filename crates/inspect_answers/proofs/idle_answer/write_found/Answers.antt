use Rattle.std.proofs.Common.{◌++◌, ℕ, List, [], subst}
use Rattle.std.specs.Prelude.{flat_map}
use Rattle.ov_io.specs.Pieces.{IsOnItsWay}
use Rattle.ov_io.proofs.PieceLemmas.{ends_cut}
use Rattle.inspect_answers.specs.IdleLines.{idle_line_in}
use Rattle.inspect_answers.proofs.idle_answer.write_found.Goals as goal

pub returns-clause-front : goal.returns-clause-front
returns-clause-front g c =
    let text = flat_map (idle_line_in c.args.lines.now.form c.args.lines.now.config.now) c.args.found.now in
    let whole = subst (λ (t : List ℕ). IsOnItsWay (g.K.Sink.taken c.args.sink.now) (g.K.Sink.taken c.write_each.new.sink) c.write_each.new.gathered [] t)
    (λ i. c.new-gathered.ensures i ++ text) c.in_ok-write_each.ensures.ok in
    ends_cut c.write_gathered.result _ _ _ _ _ _ whole c.write_gathered.ensures.front
