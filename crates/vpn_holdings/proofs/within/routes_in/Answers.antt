use Rattle.std.proofs.Common.{◌∙◌, ap}
use Rattle.std.specs.List.{list_any}
use Rattle.std.specs.BTreeMap.Range.{range_contains}
use Rattle.std.specs.declared.ops.Bound.TheVariants.{Included, Excluded, Unbounded}
use Rattle.ov_types.specs.Prefix.{Block}
use Rattle.vpn_holdings.specs.Indexed.{route_order}
use Rattle.vpn_holdings.specs.declared.places.RouteAt.{RouteAt}
use Rattle.vpn_holdings.proofs.PrefixOrder.{routes_inside, routes_onward}
use Rattle.vpn_holdings.proofs.Subnets.{any_filter}
use Rattle.vpn_holdings.proofs.within.routes_in.Goals as goal

pub returns-in_default-clause-routes : goal.returns-in_default-clause-routes
returns-in_default-clause-routes c = λ p f.
    ap (list_any p) (c.range.ensures.between tt)
    ∙ any_filter p (λ (e : RouteAt × Block). range_contains route_order (Included (record { addr = c.addr.result; len = 0; session = 0; rd = record { 0 = 0 } })) Unbounded e.0) c.args.routes.now.entries
    (λ e t. routes_onward c.args.subnet.now c.addr.result c.addr.ensures.addr e.0 (f e t))

pub returns-clause-routes : goal.returns-clause-routes
returns-clause-routes c = λ p f.
    ap (list_any p) (c.range-2.ensures.between tt)
    ∙ any_filter p (λ (e : RouteAt × Block). range_contains route_order (Included (record { addr = c.addr.result; len = 0; session = 0; rd = record { 0 = 0 } })) (Excluded (record { addr = c.in-Some.addr; len = 0; session = 0; rd = record { 0 = 0 } })) e.0) c.args.routes.now.entries
    (λ e t. routes_inside c.args.subnet.now c.addr.result c.in-Some.addr c.addr.ensures.addr c.in-Some.ensures e.0 (f e t))
