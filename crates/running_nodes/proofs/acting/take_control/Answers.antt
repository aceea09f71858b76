use Rattle.std.proofs.Common.{ap, sym, ◌∙◌, ◌<◌, length, arith}
use Rattle.node_core.specs.Whole.{session_of}
use Rattle.running_nodes.specs.ControlNode.Core.{fresh}
use Rattle.running_nodes.proofs.Stepping.{control_long, control_takes, fresh_vacated, never_failed}
use Rattle.running_nodes.proofs.Vacant.{sessions_there, taken_stays}
use Rattle.running_nodes.proofs.acting.take_control.Goals as goal

pub step-stepped-requires-clause-known : goal.step-stepped-requires-clause-known
step-stepped-requires-clause-known c = let many = sessions_there c.args.node.now.plan in omega (arith, many, c.requires.known)

pub step-stepped-requires-clause-kept : goal.step-stepped-requires-clause-kept
step-stepped-requires-clause-kept c =
    taken_stays c.args.node.now.plan c.is_retired-retired.ensures.numbers (session_of c.args.input) c.requires.taken.0 c.requires.taken.1

pub step-stepped-requires-clause-linked : goal.step-stepped-requires-clause-linked
step-stepped-requires-clause-linked c = c.requires.linked ∙ sessions_there c.args.node.now.plan

pub returns-then-failed-clause-long : goal.returns-then-failed-clause-long
returns-then-failed-clause-long c =
    (control_long c.args.node.now c.restart.new.self (c.restart.ensures ∙ ap fresh c.step-stepped.ensures.plan) c.requires.long c.requires.kept).0

pub returns-then-failed-clause-kept : goal.returns-then-failed-clause-kept
returns-then-failed-clause-kept c =
    (control_long c.args.node.now c.restart.new.self (c.restart.ensures ∙ ap fresh c.step-stepped.ensures.plan) c.requires.long c.requires.kept).1

pub returns-then-failed-clause-vacated : goal.returns-then-failed-clause-vacated
returns-then-failed-clause-vacated c = fresh_vacated c.restart.new.self c.step-stepped.new.self.plan c.restart.ensures

pub returns-clause-takes : goal.returns-clause-takes
returns-clause-takes c =
    let below : session_of c.args.input < length c.args.node.now.posts = omega (arith, c.requires.known, c.requires.long) in
    let fine = never_failed c.step-stepped.result c.step-stepped.new.self.failed c.step-stepped.ensures.failed.1 (sym c.failed.ensures ∙ c.if-failed.false) in
    let is = c.step-stepped.ensures.step fine in
    let stays = taken_stays c.args.node.now.plan c.is_retired-retired.ensures.numbers (session_of c.args.input) c.requires.taken.0 c.requires.taken.1 in
    (control_takes c.args.node.now c.step-stepped.new.self c.args.input c.args.links.now c.step-stepped.new.links is.0 c.step-stepped.result
    c.requires.vacated stays c.step-stepped.ensures.plan below c.step-stepped.ensures.links is.1 is.2).0

pub returns-clause-vacated : goal.returns-clause-vacated
returns-clause-vacated c =
    let below : session_of c.args.input < length c.args.node.now.posts = omega (arith, c.requires.known, c.requires.long) in
    let fine = never_failed c.step-stepped.result c.step-stepped.new.self.failed c.step-stepped.ensures.failed.1 (sym c.failed.ensures ∙ c.if-failed.false) in
    let is = c.step-stepped.ensures.step fine in
    let stays = taken_stays c.args.node.now.plan c.is_retired-retired.ensures.numbers (session_of c.args.input) c.requires.taken.0 c.requires.taken.1 in
    (control_takes c.args.node.now c.step-stepped.new.self c.args.input c.args.links.now c.step-stepped.new.links is.0 c.step-stepped.result
    c.requires.vacated stays c.step-stepped.ensures.plan below c.step-stepped.ensures.links is.1 is.2).1
