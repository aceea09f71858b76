use Rattle.std.proofs.Common.{sym, length}
use Rattle.chain_expand.proofs.Reached.{leads_none}
use Rattle.chain_expand.proofs.loops.does_loop.Goals as goal

pub returns-in-None : goal.returns-in-None
returns-in-None c =
    let name = c.args.chain.now in
    sym (leads_none (length c.args.config.now.chains) c.args.config.now name name (sym c.in-None.ensures.place))

pub returns-in-Some : goal.returns-in-Some
returns-in-Some c = c.leads_to.ensures c.args.chain.now (sym c.in-Some.ensures.place)
