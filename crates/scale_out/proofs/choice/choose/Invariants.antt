use Rattle.scale_out.proofs.Best.{IsBest}
use Rattle.scale_out.proofs.choice.choose.Given as goal

abbrev pub invariant-loop-member : goal.invariant-loop-member
invariant-loop-member l = IsBest l.members l.key l.member-index l.best
