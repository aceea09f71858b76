use Rattle.std.proofs.Common.{◌≡◌, ◌++◌, drop}
use Rattle.std.specs.List.{All}
use Rattle.running_nodes.specs.MachineModel.Network.{peerings}
use Rattle.net_machine.specs.Seating.{AreSeated, order_among}
use Rattle.net_machine.proofs.order.push_peerings.Given as goal

abbrev pub invariant-loop-i : goal.invariant-loop-i
invariant-loop-i l = record {
  pushed : l.order.items ++ order_among l.nodes.seats (peerings (drop l.i l.controllers))
      ≡ l.fn.order.items ++ order_among l.nodes.seats (peerings l.controllers);
  seated : All (AreSeated l.nodes.seats) l.order.items;
}
