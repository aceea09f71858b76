use Rattle.std.proofs.Common.{◌∙◌}
use Rattle.std.specs.List.{filter}
use Rattle.ov_types.specs.Prefix.{Block}
use Rattle.vpn_holdings.specs.declared.places.RouteAt.{RouteAt}
use Rattle.vpn_holdings.proofs.PrefixOrder.{between_routes}
use Rattle.vpn_holdings.proofs.places.routes_to.Goals as goal

pub returns-clause-routes : goal.returns-clause-routes
returns-clause-routes c =
    c.range.ensures.between tt
    ∙ (λ i. filter (λ (e : RouteAt × Block). between_routes c.args.prefix.now c.addr.result c.addr-2.result c.len.result c.len-2.result c.addr.ensures.addr c.addr-2.ensures.addr c.len.ensures.len c.len-2.ensures.len e.0 i) c.args.routes.now.entries)
