use Rattle.std.proofs.Common.{sym, ◌∙◌}
use Rattle.net_machine.proofs.Seating.{far_is_seated}
use Rattle.net_machine.proofs.clear.is_whole_there.Goals as goal

pub is_whole-requires : goal.is_whole-requires
is_whole-requires c =
    far_is_seated _ c.args.place c.in-Some.far c.requires.long (sym c.far_of.ensures ∙ c.in-Some.is)
