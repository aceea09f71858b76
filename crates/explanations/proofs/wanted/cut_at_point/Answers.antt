use Rattle.std.proofs.Common.{◌∙◌, arith}
use Rattle.explanations.proofs.Points.{before_is, behind_is, nothing_before, whole_behind}
use Rattle.explanations.proofs.wanted.cut_at_point.Goals as goal

pub returns-in-Some-clause-front : goal.returns-in-Some-clause-front
returns-in-Some-clause-front c =
    let h = c.in-Some.ensures.cases in
    h.3 ∙ before_is c.args.path.now h.0 h.1 h.2.0 h.2.1 (omega (arith, h.7))

pub returns-in-Some-clause-back : goal.returns-in-Some-clause-back
returns-in-Some-clause-back c =
    let h = c.in-Some.ensures.cases in
    h.4 ∙ behind_is c.args.path.now h.0 h.1 h.2.0 h.2.1 (omega (arith, h.7))

pub returns-in-None-clause-front : goal.returns-in-None-clause-front
returns-in-None-clause-front c = nothing_before c.args.path.now c.in-None.ensures.cases

pub returns-in-None-clause-back : goal.returns-in-None-clause-back
returns-in-None-clause-back c = whole_behind c.args.path.now c.in-None.ensures.cases
