use Rattle.std.proofs.Common.{ap, ◌∙◌, List, map}
use Rattle.std.specs.FinMap.{from_entries}
use Rattle.ov_types.specs.declared.vpn.VpnKey.{VpnKey}
use Rattle.ov_types.specs.declared.vpn.VpnRoute.{VpnRoute}
use Rattle.node_routes.specs.NodeModel.Paths.{Path}
use Rattle.vpn_holdings.specs.declared.routes.Route.{Route}
use Rattle.vpn_tables.specs.Routes.{path_of}
use Rattle.vpn_tables.specs.Views.{vpn_order}
use Rattle.chain_reorigin.specs.Told.{told_path}
use Rattle.control_wants.proofs.Wanting.{peers_wanted}
use Rattle.control_wants.proofs.wants.wanted_by_peers.Goals as goal

pub returns : goal.returns
returns c =
    peers_wanted c.args.tables.now c.in_ok-wanted.wanted.entries c.in_ok-routes.routes.items c.in_ok-led.led.items
    (c.in_ok-wanted.ensures ∙ ap (λ (l : List (VpnKey × VpnRoute)). from_entries {R = vpn_order} l) c.in_ok-append.ensures.items)
    (c.in_ok-routes.ensures ∙ ap (λ (l : List Route). map told_path (map path_of l)) c.as_slice.ensures.value ∙ ap (λ (l : List Path). map told_path l) c.in_ok-own.ensures)
    c.in_ok-led.ensures.of_the_model
