use Rattle.vpn_holdings.proofs.WithLed.{with_led}
use Rattle.vpn_holdings.proofs.holdings.VpnHoldings.paths_at.Goals as goal

pub returns : goal.returns
returns c =
    with_led c.args.self.now c.args.i c.args.prefix.now c.uses_are_short.ensures c.in_ok-paths.paths.items c.push_led.new.paths.items c.push_led-2.new.paths.items
    c.in_ok-paths.ensures c.in_ok-push_led.ensures c.in_ok-push_led-2.ensures
