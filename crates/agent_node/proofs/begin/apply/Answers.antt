use Rattle.agent_node.proofs.Applied.{applied, applied_fits}
use Rattle.agent_node.proofs.begin.apply.Goals as goal

pub returns-in_ok-apply-clause-changed : goal.returns-in_ok-apply-clause-changed
returns-in_ok-apply-clause-changed c =
    applied c.args.held.now c.apply.new.self c.args.item c.in-Some.delta (c.in-Some.ensures c.requires.of_control)
    c.in_ok-apply.ensures.ok

pub returns-in_ok-apply-clause-fits : goal.returns-in_ok-apply-clause-fits
returns-in_ok-apply-clause-fits c =
    applied_fits c.args.held.now c.apply.new.self c.args.item c.in-Some.delta (c.in-Some.ensures c.requires.of_control)
    c.in_ok-apply.ensures.ok c.requires.writable c.requires.fits
