use Rattle.std.proofs.Common.{sym, ◌∙◌}
use Rattle.net_machine.proofs.Seating.{named_within}
use Rattle.net_machine.proofs.happen.restarted.Goals as goal

pub restart-requires-clause-node : goal.restart-requires-clause-node
restart-requires-clause-node c =
    named_within _ c.args.name.now c.in-Some.node (sym c.seat_named.ensures ∙ c.in-Some.is)
