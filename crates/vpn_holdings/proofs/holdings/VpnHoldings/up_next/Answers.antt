use Rattle.vpn_holdings.proofs.Farther.{next_turn}
use Rattle.vpn_holdings.proofs.holdings.VpnHoldings.up_next.Goals as goal

pub loop-index-preserved : goal.loop-index-preserved
loop-index-preserved c =
    next_turn c.args.self.now c.args.side.now c.args.distance c.subnets-subnet-items.result.now c.args.up.now
    c.loop-index.index c.subnet-item.result c.loop-index.next.items c.push.new.self.items c.is_up_next.result _
    c.loop-index-test.true c.subnets-subnet-items.ensures c.requires.up c.subnet-item.is c.in_ok-push.ensures.items
    c.is_up_next.ensures c.loop-index.invariant
