use Rattle.std.proofs.Common.{sym, ◌∙◌}
use Rattle.net_machine.proofs.Kept.{seated_kept}
use Rattle.net_machine.proofs.Seating.{far_is_seated}
use Rattle.net_machine.proofs.lose.tell_of_loss.Goals as goal

pub is_live-is_live-requires-clause-session : goal.is_live-is_live-requires-clause-session
is_live-is_live-requires-clause-session c =
    (far_is_seated _ c.args.place c.in-Some.far c.requires.long (sym c.far_of.ensures ∙ c.in-Some.is)).session

pub set_notice-requires-clause-seated : goal.set_notice-requires-clause-seated
set_notice-requires-clause-seated c =
    far_is_seated _ c.args.place c.in-Some.far c.requires.long (sym c.far_of.ensures ∙ c.in-Some.is)

pub clear-requires-clause-seated : goal.clear-requires-clause-seated
clear-requires-clause-seated c =
    seated_kept _ _ c.in-Some.far c.set_notice.ensures.keeps
    (far_is_seated _ c.args.place c.in-Some.far c.requires.long (sym c.far_of.ensures ∙ c.in-Some.is))
