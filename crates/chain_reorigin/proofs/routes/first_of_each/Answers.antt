use Rattle.std.proofs.Common.{ap, sym, ◌∙◌, List, map, ◌++◌}
use Rattle.ov_sync.specs.Keyed.{map_of}
use Rattle.ov_sync.proofs.Ascending.{map_of-insert}
use Rattle.vpn_holdings.specs.declared.routes.Route.{Route}
use Rattle.vpn_tables.specs.Views.{vpn_order}
use Rattle.vpn_tables.proofs.NodeModel.Directions.{vpn_total}
use Rattle.chain_reorigin.specs.Counting.{keyed}
use Rattle.chain_reorigin.proofs.Telling.{turn}
use Rattle.chain_reorigin.proofs.routes.first_of_each.Goals as goal

pub loop-route-preserved : goal.loop-route-preserved
loop-route-preserved c =
    let h = c.in_ok-insert.ensures in
    let r = c.in-Some.route in
    let old = c.loop-route.first in
    let new = c.insert.new.self in
    turn c.pop.new.self.items r old.entries new.entries
    (map_of-insert vpn_order vpn_total old new (keyed r).0 r h.entries h.was_ordered h.ordered)
    ∙ ap (λ (l : List Route). map_of vpn_order (map keyed l ++ old.entries)) (sym c.in-Some.ensures.items)
    ∙ c.loop-route.invariant
