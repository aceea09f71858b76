use Rattle.std.proofs.Common.{◌≡◌, subst}
use Rattle.hitless_answers.specs.Judging.{Held, judged, standing}
use Rattle.hitless_answers.specs.declared.judging.Judgement.TheVariants.{Made}
use Rattle.hitless_answers.proofs.Standing.{judged_made}
use Rattle.hitless_answers.proofs.judging.Judge.judge.Goals as goal

pub returns-in_ok-lines-in-Ok-clause-judgement : goal.returns-in_ok-lines-in-Ok-clause-judgement
returns-in_ok-lines-in-Ok-clause-judgement c =
    let held : Held = record { checked = c.self.inside.valid; kept = c.self.inside.ties } in
    subst (λ (h : Held). Made c.in_ok-lines-in-Ok.lines ≡ judged (standing h) c.args.edit.now) c.self.view_is
    (judged_made (standing held) c.args.edit.now c.in_ok-lines-in-Ok.lines c.in-Ok.ensures.accepted c.in_ok-lines-in-Ok.ensures)
