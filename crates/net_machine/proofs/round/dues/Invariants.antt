use Rattle.std.proofs.Common.{◌≡◌, ◌++◌, drop}
use Rattle.std.specs.List.{All}
use Rattle.net_machine.specs.Rounds.{IsDueSeated, dues}
use Rattle.net_machine.proofs.round.dues.Given as goal

abbrev pub invariant-loop-ends : goal.invariant-loop-ends
invariant-loop-ends l = record {
  dues : l.due.items ++ dues l.nodes.seats (drop l.ends-index l.order)
      ≡ dues l.nodes.seats l.order;
  seated : All (IsDueSeated l.nodes.seats) l.due.items;
}
