use Rattle.std.proofs.Common.{◌≡◌, ◌++◌, drop}
use Rattle.std.specs.List.{All}
use Rattle.net_machine.specs.Seating.{peerings_of}
use Rattle.net_machine.specs.Seating.{AreSeated, order_among}
use Rattle.net_machine.proofs.order.push_peerings_of.Given as goal

abbrev pub invariant-loop-other : goal.invariant-loop-other
invariant-loop-other l = record {
  pushed : l.order.items ++ order_among l.nodes.seats (peerings_of l.controller (drop l.other-index l.others))
      ≡ l.fn.order.items ++ order_among l.nodes.seats (peerings_of l.controller l.others);
  seated : All (AreSeated l.nodes.seats) l.order.items;
}
