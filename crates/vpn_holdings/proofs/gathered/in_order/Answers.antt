use Rattle.std.proofs.Common.{ap, ◌∙◌}
use Rattle.std.specs.FinMap.{from_entries}
use Rattle.vpn_holdings.proofs.Gathering.{in_order_are}
use Rattle.vpn_holdings.proofs.gathered.in_order.Goals as goal

pub returns : goal.returns
returns g c =
    c.in_ok-keys.ensures.keys
    ∙ in_order_are g.K.Ord.cmp g.met.K.Ord.total c.args.items.now c.in_ok-once.once.entries c.in_ok-keys.ensures.ordered
    (c.in_ok-once.ensures ∙ ap from_entries c.in_ok-entries.ensures)
