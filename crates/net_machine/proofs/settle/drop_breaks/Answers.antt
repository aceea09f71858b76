use Rattle.std.proofs.Common.{sym, subst}
use Rattle.net_machine.specs.Seating.{Keeps}
use Rattle.net_machine.proofs.Changes.{unbroken_keeps}
use Rattle.net_machine.proofs.settle.drop_breaks.Goals as goal

pub returns-clause-keeps : goal.returns-clause-keeps
returns-clause-keeps c =
    subst (Keeps c.args.nodes.now.seats) (sym c.drop_breaks.ensures.dropped) (unbroken_keeps _ c.requires.long)
