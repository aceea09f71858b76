use Rattle.std.proofs.Common.{◌≡◌, ◌++◌, drop}
use Rattle.std.specs.List.{All}
use Rattle.running_nodes.specs.MachineModel.Network.{accesses}
use Rattle.net_machine.specs.Seating.{AreSeated, order_among}
use Rattle.net_machine.proofs.order.push_accesses.Given as goal

abbrev pub invariant-loop-node : goal.invariant-loop-node
invariant-loop-node l = record {
  pushed : l.order.items ++ order_among l.nodes.seats (accesses l.controllers (drop l.node-index l.compute_nodes))
      ≡ l.fn.order.items ++ order_among l.nodes.seats (accesses l.controllers l.compute_nodes);
  seated : All (AreSeated l.nodes.seats) l.order.items;
}
