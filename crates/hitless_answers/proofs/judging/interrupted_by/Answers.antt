use Rattle.std.proofs.Common.{IfOk, ◌≡◌, subst}
use Rattle.config_check.specs.Checked.{Checked}
use Rattle.hitless_cells.specs.Lines.{interruptions}
use Rattle.hitless_answers.proofs.judging.interrupted_by.Goals as goal

pub returns : goal.returns
returns c = subst (λ (y : Checked). IfOk c.interruptions.result (λ lines. lines ≡ interruptions c.args.before.now y)) c.requires.made c.interruptions.ensures.lines
