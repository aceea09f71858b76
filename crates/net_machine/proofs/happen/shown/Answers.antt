use Rattle.std.proofs.Common.{sym, ◌∙◌}
use Rattle.net_machine.proofs.Seating.{named_within}
use Rattle.net_machine.proofs.happen.shown.Goals as goal

pub rows-requires-clause-node : goal.rows-requires-clause-node
rows-requires-clause-node c =
    named_within _ c.args.name.now c.in-Some.node (sym c.seat_named.ensures ∙ c.in-Some.is)
