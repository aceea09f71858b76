use Rattle.net_machine.proofs.Ordering.{order_parts}
use Rattle.net_machine.proofs.order.order_of.Goals as goal

pub returns-clause-order : goal.returns-clause-order
returns-clause-order c =
    order_parts c.args.nodes.now.seats c.args.topology.now c.as_slice-controllers.result.now c.as_slice.result.now
    c.new-order.result.items c.push_feeds.new.order.items c.push_peerings.new.order.items c.push_accesses.new.order.items
    c.as_slice-controllers.ensures c.as_slice.ensures c.new-order.ensures.items c.in_ok-push_feeds.ensures.pushed
    c.in_ok-push_peerings.ensures.pushed c.in_ok-push_accesses.ensures.pushed
