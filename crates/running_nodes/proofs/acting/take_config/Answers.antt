use Rattle.std.proofs.Common.{ap, sym, ◌∙◌, ◌<◌, length, arith}
use Rattle.node_core.specs.Whole.{session_of}
use Rattle.config_check.specs.Checked.{Checked}
use Rattle.running_nodes.specs.Seats.{Configuring}
use Rattle.running_nodes.specs.Cores.{configured}
use Rattle.running_nodes.proofs.Stepping.{never_failed, takes_over, config_long}
use Rattle.running_nodes.proofs.acting.take_config.Goals as goal

pub returns-then-failed-clause-long : goal.returns-then-failed-clause-long
returns-then-failed-clause-long c =
    (config_long c.args.node.now.setup c.step-stepped.new.self.setup c.restart.new.self c.args.node.now.posts c.args.node.now.kept c.restart.ensures (ap (λ (x : Checked). x.topology.controllers) c.step-stepped.ensures.setup) c.requires.long c.requires.kept).0

pub returns-clause-takes : goal.returns-clause-takes
returns-clause-takes c =
    let below : session_of c.args.input < length c.args.node.now.posts = omega arith in
    let fine = never_failed c.step-stepped.result c.step-stepped.new.self.failed c.step-stepped.ensures.failed.1 (sym c.failed.ensures ∙ c.if-failed.false) in
    let is = c.step-stepped.ensures.step fine in
    takes_over (configured c.args.node.now) (configured c.step-stepped.new.self) c.args.input c.args.links.now c.step-stepped.new.links is.0 _
    c.step-stepped.result (λ given cause b. (cause, b)) (ap Configuring c.step-stepped.ensures.setup) below c.step-stepped.ensures.links is.1 is.2
