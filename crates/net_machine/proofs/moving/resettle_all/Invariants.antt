use Rattle.std.proofs.Common.{◌≡◌}
use Rattle.std.specs.Prelude.{option_copied}
use Rattle.running_nodes.specs.Moving.{resettled_at}
use Rattle.net_machine.proofs.Coming.{UpTo}
use Rattle.net_machine.proofs.moving.resettle_all.Given as goal

abbrev pub invariant-loop-index : goal.invariant-loop-index
invariant-loop-index l = record {
  resettled : UpTo (resettled_at l.name (option_copied l.now)) l.index l.fn.nodes.seats l.nodes.seats;
  failed : l.nodes.failed ≡ l.fn.nodes.failed;
}
