use Rattle.std.proofs.Common.{◌++◌, ℕ, List, [], subst}
use Rattle.ov_io.specs.Pieces.{IsOnItsWay}
use Rattle.ov_io.proofs.PieceLemmas.{ends_cut}
use Rattle.inspect_json.specs.ChangeLines.{lists_in}
use Rattle.inspect_answers.proofs.diffing.write_found.Goals as goal

pub returns-clause-front : goal.returns-clause-front
returns-clause-front g c =
    let whole = subst (λ (t : List ℕ). IsOnItsWay (g.K.Sink.taken c.args.sink.now) (g.K.Sink.taken c.write_lists.new.sink) c.write_lists.new.gathered [] t)
    (λ i. c.new-gathered.ensures i ++ lists_in c.args.lines.now.form c.args.lines.now.before.now c.args.lines.now.after.now (c.deref.ensures.value i) (c.deref-2.ensures.value i) (c.deref-3.ensures.value i))
    c.in_ok-write_lists.ensures.ok in
    ends_cut c.write_gathered.result _ _ _ _ _ _ whole c.write_gathered.ensures.front
