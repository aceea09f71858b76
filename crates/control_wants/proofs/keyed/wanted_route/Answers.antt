use Rattle.std.proofs.Common.{Some, ap, sym, ◌∙◌}
use Rattle.std.specs.declared.option.Option.{Option}
use Rattle.std.specs.Option.{option_map}
use Rattle.ov_types.specs.declared.vpn.VpnRoute.{VpnRoute}
use Rattle.node_routes.specs.NodeModel.Values.{Route}
use Rattle.vpn_holdings.specs.declared.routes.Route.{Route as Led}
use Rattle.vpn_tables.specs.Routes.{path_of}
use Rattle.control_wants.proofs.OneKey.{route_wanted, told_value}
use Rattle.control_wants.proofs.keyed.wanted_route.Goals as goal

pub returns-in_ok-told-in-Some : goal.returns-in_ok-told-in-Some
returns-in_ok-told-in-Some c =
    ap (λ (v : VpnRoute). Some (Route v)) c.in_ok-told-in-Some.ensures
    ∙ ap (λ (o : Option Led). option_map told_value (option_map path_of o)) (sym c.in-Some.is)
    ∙ route_wanted c.args.tables.now c.args.key.now (option_map path_of c.counting.result) c.counting.ensures

pub returns-in-None : goal.returns-in-None
returns-in-None c =
    ap (λ (o : Option Led). option_map told_value (option_map path_of o)) (sym c.in-None.is)
    ∙ route_wanted c.args.tables.now c.args.key.now (option_map path_of c.counting.result) c.counting.ensures
