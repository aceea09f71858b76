use Rattle.std.proofs.Common.{ap, sym, ◌∙◌, ◌<◌, length, arith}
use Rattle.running_nodes.specs.ControlNode.Agents.{failed_in}
use Rattle.running_nodes.specs.ControlNode.Core.{fresh}
use Rattle.running_nodes.proofs.Stepping.{control_long, control_passes, fresh_vacated, never_failed}
use Rattle.running_nodes.proofs.Vacant.{sessions_there}
use Rattle.running_nodes.proofs.acting.tell_control.Goals as goal

pub tell-told-requires : goal.tell-told-requires
tell-told-requires c = record { linked = c.requires.linked ∙ sessions_there c.args.node.now.plan }

pub returns-then-failed-clause-long : goal.returns-then-failed-clause-long
returns-then-failed-clause-long c =
    (control_long c.args.node.now c.restart.new.self (c.restart.ensures ∙ ap fresh c.tell-told.ensures.plan) c.requires.long c.requires.kept).0

pub returns-then-failed-clause-kept : goal.returns-then-failed-clause-kept
returns-then-failed-clause-kept c =
    (control_long c.args.node.now c.restart.new.self (c.restart.ensures ∙ ap fresh c.tell-told.ensures.plan) c.requires.long c.requires.kept).1

pub returns-then-failed-clause-vacated : goal.returns-then-failed-clause-vacated
returns-then-failed-clause-vacated c = fresh_vacated c.restart.new.self c.tell-told.new.self.plan c.restart.ensures

pub returns-clause-passes : goal.returns-clause-passes
returns-clause-passes c =
    let some : 0 < length c.args.node.now.posts = (let many = sessions_there c.args.node.now.plan in omega (arith, many, c.requires.long)) in
    let fine = never_failed c.tell-told.result c.tell-told.new.self.failed c.tell-told.ensures.failed.1 (sym c.failed.ensures ∙ c.if-failed.false) in
    (control_passes c.args.node.now c.tell-told.new.self c.args.links.now c.tell-told.new.links (failed_in c.tell-told.result)
    c.is_retired-retired.ensures.numbers c.requires.vacated c.tell-told.ensures.plan some c.tell-told.ensures.links
    (c.tell-told.ensures.passes fine).steps (c.tell-told.ensures.swept fine)).0

pub returns-clause-vacated : goal.returns-clause-vacated
returns-clause-vacated c =
    let some : 0 < length c.args.node.now.posts = (let many = sessions_there c.args.node.now.plan in omega (arith, many, c.requires.long)) in
    let fine = never_failed c.tell-told.result c.tell-told.new.self.failed c.tell-told.ensures.failed.1 (sym c.failed.ensures ∙ c.if-failed.false) in
    (control_passes c.args.node.now c.tell-told.new.self c.args.links.now c.tell-told.new.links (failed_in c.tell-told.result)
    c.is_retired-retired.ensures.numbers c.requires.vacated c.tell-told.ensures.plan some c.tell-told.ensures.links
    (c.tell-told.ensures.passes fine).steps (c.tell-told.ensures.swept fine)).1
