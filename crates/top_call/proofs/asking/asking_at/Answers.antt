use Rattle.std.proofs.Common.{ap, subst, ◌∙◌}
use Rattle.rt_constrain.specs.Asking.{asked}
use Rattle.top_call.specs.ConstraintNetworks.{NeedsNoMore}
use Rattle.top_call.proofs.Quiet.{asked_same, enough_same}
use Rattle.top_call.proofs.asking.asking_at.Goals as goal

pub returns-clause-asking : goal.returns-clause-asking
returns-clause-asking c =
    let same = c.in_ok-asked.ensures.asked ∙ ap asked c.tables.ensures ∙ asked_same _ _ c.in-Some.ensures.holds in
    λ j. record { node = c.args.node.now.name; asked = same j }

pub returns-clause-enough : goal.returns-clause-enough
returns-clause-enough c =
    enough_same _ _ c.in-Some.ensures.holds (subst NeedsNoMore c.tables.ensures c.in_ok-asked.ensures.enough)
