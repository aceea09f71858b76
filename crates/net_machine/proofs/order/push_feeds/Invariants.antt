use Rattle.std.proofs.Common.{◌≡◌, ◌++◌, drop}
use Rattle.std.specs.List.{All}
use Rattle.running_nodes.specs.MachineModel.Network.{feeds}
use Rattle.net_machine.specs.Seating.{AreSeated, order_among}
use Rattle.net_machine.proofs.order.push_feeds.Given as goal

abbrev pub invariant-loop-controller : goal.invariant-loop-controller
invariant-loop-controller l = record {
  pushed : l.order.items ++ order_among l.nodes.seats (feeds (drop l.controller-index l.controllers))
      ≡ l.fn.order.items ++ order_among l.nodes.seats (feeds l.controllers);
  seated : All (AreSeated l.nodes.seats) l.order.items;
}
