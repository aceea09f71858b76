use Rattle.node_core.proofs.Told.{told_from, told_names, told_steps}
use Rattle.node_core.proofs.telling.tell.Goals as goal

pub returns-clause-steps : goal.returns-clause-steps
returns-clause-steps g c = λ before event h.
    told_steps _ _ _ _ _ _ _ _ _ _ _ before event h
    (told_from (g.E.Ends.kind c.args.ends.now) g.L.Link.accepted g.L.Link.breaks g.L.Link.faults c.args.replies.now
    (g.E.Ends.posts c.args.ends.now) (g.E.Ends.posts c.pass.new.ends) c.args.links.now c.pass.new.links c.args.session
    c.earlier.result (g.E.Ends.kind c.serve.new.ends) _ _ _ _ _ _ _
    (g.met.E.Ends.idle_is_silent c.args.ends.now c.args.session) c.requires.known c.requires.linked
    c.in_ok-failed.ensures.serves c.in_ok-failed.ensures.kind c.in_ok-failed.ensures.ends c.deref.ensures.value
    c.in_ok-plans.ensures.plans c.in_ok-plans.ensures.long c.in_ok-lowest.ensures.passes c.earlier.ensures)

pub returns-clause-names : goal.returns-clause-names
returns-clause-names g c =
    told_names (g.E.Ends.kind c.args.ends.now) g.L.Link.accepted g.L.Link.breaks g.L.Link.faults c.args.replies.now
    (g.E.Ends.posts c.args.ends.now) (g.E.Ends.posts c.pass.new.ends) c.args.links.now c.pass.new.links c.args.session
    c.earlier.result c.requires.linked
    (told_from (g.E.Ends.kind c.args.ends.now) g.L.Link.accepted g.L.Link.breaks g.L.Link.faults c.args.replies.now
    (g.E.Ends.posts c.args.ends.now) (g.E.Ends.posts c.pass.new.ends) c.args.links.now c.pass.new.links c.args.session
    c.earlier.result (g.E.Ends.kind c.serve.new.ends) _ _ _ _ _ _ _
    (g.met.E.Ends.idle_is_silent c.args.ends.now c.args.session) c.requires.known c.requires.linked
    c.in_ok-failed.ensures.serves c.in_ok-failed.ensures.kind c.in_ok-failed.ensures.ends c.deref.ensures.value
    c.in_ok-plans.ensures.plans c.in_ok-plans.ensures.long c.in_ok-lowest.ensures.passes c.earlier.ensures)
