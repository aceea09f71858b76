use Rattle.std.proofs.Common.{sym, ◌∙◌, length}
use Rattle.chain_expand.proofs.Reached.{leads_none, leads_by_row}
use Rattle.chain_expand.proofs.loops.leads_to.Goals as goal

pub returns-in-None : goal.returns-in-None
returns-in-None c = λ to at. sym (leads_none (length c.args.config.now.chains) c.args.config.now c.args.from.now to (sym c.in-None.ensures.place))

pub returns-in-Some : goal.returns-in-Some
returns-in-Some c = λ to at.
    c.do_meet.ensures
    ∙ leads_by_row c.args.config.now c.args.rows.now c.args.marks.now c.args.target c.in-Some.place c.args.from.now to c.requires.few c.told-marks c.requires.linked c.requires.reached c.requires.within at c.in-Some.ensures.within (sym c.in-Some.ensures.place)
