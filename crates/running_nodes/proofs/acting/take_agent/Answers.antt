use Rattle.std.proofs.Common.{ap, sym, ◌∙◌, ◌<◌, length, arith}
use Rattle.node_core.specs.Whole.{session_of}
use Rattle.agent_node.specs.Core.{fresh}
use Rattle.running_nodes.specs.Seats.{Forwarding}
use Rattle.running_nodes.specs.Cores.{forwarded}
use Rattle.running_nodes.proofs.Stepping.{never_failed, takes_over, agent_long}
use Rattle.running_nodes.proofs.acting.take_agent.Goals as goal

pub returns-then-failed-clause-long : goal.returns-then-failed-clause-long
returns-then-failed-clause-long c =
    (agent_long c.args.node.now c.restart.new.self (c.restart.ensures ∙ ap fresh c.step-stepped.ensures.plan) c.requires.long c.requires.kept).0

pub returns-clause-takes : goal.returns-clause-takes
returns-clause-takes c =
    let below : session_of c.args.input < length c.args.node.now.posts = omega arith in
    let fine = never_failed c.step-stepped.result c.step-stepped.new.self.failed c.step-stepped.ensures.failed.1 (sym c.failed.ensures.answer ∙ c.if-failed.false) in
    let is = c.step-stepped.ensures.step fine in
    takes_over (forwarded c.args.node.now) (forwarded c.step-stepped.new.self) c.args.input c.args.links.now c.step-stepped.new.links is.0 _
    c.step-stepped.result (λ given cause b. (cause, b)) (ap Forwarding c.step-stepped.ensures.plan) below c.step-stepped.ensures.links is.1 is.2
