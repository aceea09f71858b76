use Rattle.std.proofs.Common.{List, ap, sym, ◌∙◌, map}
use Rattle.std.specs.Prelude.{Some}
use Rattle.ov_sync.specs.declared.Delta.TheVariants.{Put}
use Rattle.ov_sync.specs.declared.Delta.{Delta}
use Rattle.ov_sync.specs.Embed.{moved_delta}
use Rattle.ov_types.specs.declared.vpn.VpnKey.{VpnKey}
use Rattle.ov_types.specs.declared.vpn.VpnRoute.{VpnRoute}
use Rattle.path_select.specs.NodeModel.Keys.{Vpn}
use Rattle.path_select.specs.NodeModel.Maps.{Map}
use Rattle.path_select.specs.NodeModel.Values.{Route}
use Rattle.vpn_holdings.specs.Changes.{changed_at}
use Rattle.vpn_holdings.specs.Indexed.{if_told, route_in, route_order, vpn_key}
use Rattle.vpn_holdings.specs.Views.{peer_of}
use Rattle.vpn_holdings.specs.declared.places.RouteAt.{RouteAt}
use Rattle.vpn_holdings.proofs.PeersIndexed.{apart, later, put_here}
use Rattle.vpn_holdings.proofs.PrefixOrder.{route_exact, route_itself}
use Rattle.vpn_holdings.proofs.Staying.{kept_at, put_back}
use Rattle.vpn_holdings.proofs.kept.put_route.Goals as goal

pub returns-in-Ok-clause-routes : goal.returns-in-Ok-clause-routes
returns-in-Ok-clause-routes c = λ k.
    let maps = map peer_of c.args.peers.now.items in
    let at = c.route_at-at.result in
    let d : Delta VpnKey VpnRoute = Put c.args.key c.args.route in
    let applied = c.in-Ok.ensures.ok ∙ ap (λ n. changed_at maps n (moved_delta Vpn Route d)) c.from.ensures in
    let told = λ (ms : List Map) (q : RouteAt). if_told (vpn_key q).prefix (route_in ms q) in
    kept_at route_order route_exact route_itself c.args.routes.now c.insert.new.self at (Some c.args.key.prefix) (told maps) (told (map peer_of c.change_at.new.peers.items)) c.requires.kept c.in_ok-before.ensures.updates.0
    (ap (λ ms. told ms at) applied ∙ ap (told (later maps c.args.session d)) c.route_at-at.ensures ∙ ap (if_told c.args.key.prefix) (put_here maps c.args.session c.args.key c.args.route c.requires.session))
    (λ q away. ap (λ ms. told ms q) applied ∙ ap (if_told (vpn_key q).prefix) (apart maps c.args.session d q c.requires.session (λ e. away (e ∙ sym c.route_at-at.ensures)))) k

pub returns-in-Err-clause-routes : goal.returns-in-Err-clause-routes
returns-in-Err-clause-routes c = λ k.
    let told = λ (ms : List Map) (q : RouteAt). if_told (vpn_key q).prefix (route_in ms q) in
    put_back route_order route_exact route_itself c.args.routes.now c.insert.new.self c.put_route_back.new.routes c.route_at-at.result c.args.key.prefix c.in_ok-before.before (told (map peer_of c.args.peers.now.items)) c.requires.kept
    c.in_ok-before.ensures.updates.0 c.in_ok-before.ensures.old c.put_route_back.ensures k
    ∙ ap (λ ms. told ms k) (sym c.in-Err.ensures.err)
