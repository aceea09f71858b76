use Rattle.std.proofs.Common.{sym, ◌∙◌}
use Rattle.net_machine.proofs.Seating.{ends_are_seated, place_is_seated}
use Rattle.net_machine.proofs.ends.ends_of.Goals as goal

pub far_of-requires-clause-session : goal.far_of-requires-clause-session
far_of-requires-clause-session c =
    (place_is_seated _ _ _ c.in-Some.near c.requires (sym c.place_of.ensures ∙ c.in-Some.is)).session

pub returns-clause-seated : goal.returns-clause-seated
returns-clause-seated c =
    ends_are_seated _ _ _ c.in-Some.near c.in-Some-far_of.far c.requires (sym c.place_of.ensures ∙ c.in-Some.is)
    (sym c.far_of.ensures ∙ c.in-Some-far_of.is)
