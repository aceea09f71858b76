use Rattle.std.proofs.Common.{sym, ◌∙◌, subst, List, ℕ}
use Rattle.node_model.specs.Step.{post}
use Rattle.node_core.specs.Keeping.{left_in}
use Rattle.node_core.specs.Whole.{session_of}
use Rattle.node_core.proofs.Kept.{begins_also, behind_itself, none_in}
use Rattle.node_core.proofs.advancing.turn.Goals as goal

pub returns-in-Ok-clause-step : goal.returns-in-Ok-clause-step
returns-in-Ok-clause-step g c = λ _.
    let session = session_of c.args.input in
    let before = c.args.ends.now in
    let here = post (g.E.Ends.posts before) session in
    let kept = c.args.inbox.now in
    let taken = c.in-Ok.field-0.taken in
    let none = c.clear.ensures ∙ sym (none_in c.args.input taken c.requires.silent) in
    begins_also g.L.Link.accepted g.L.Link.breaks g.L.Link.faults _ _ _ _ _ _ _ _ _
    (λ given cause b.
    subst (λ (o : List ℕ). g.E.Ends.begins before session here kept c.args.input given cause o) (sym none)
    (g.met.E.Ends.begins_behind before session here kept c.args.input c.args.input given cause
    (left_in c.args.input taken) (behind_itself kept c.args.input c.requires.silent) b))
    c.in-Ok.ensures.step
