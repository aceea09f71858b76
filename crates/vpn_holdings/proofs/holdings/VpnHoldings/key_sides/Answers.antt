use Rattle.vpn_holdings.proofs.Keyed.{sides_keyed}
use Rattle.vpn_holdings.proofs.holdings.VpnHoldings.key_sides.Goals as goal

pub returns : goal.returns
returns c =
    sides_keyed c.args.self.now c.args.left.now c.args.right.now c.args.keys.now.items c.key_side.new.keys.items c.key_side-2.new.keys.items
    c.requires.one c.requires.left c.requires.right c.in_ok-key_side.ensures c.in_ok-key_side-2.ensures
