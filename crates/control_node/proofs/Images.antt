-- The changes of a peer's routes and of an agent's items, among those of all sessions.
use Rattle.std.specs.Prelude.{◌≡◌, List, [], ◌∷◌, map, Some, IfSome}
use Rattle.std.specs.List.{AllByRecursion}
use Rattle.std.specs.FinMap.{get}
use Rattle.std.proofs.Common.{subst, sym}
use Rattle.ov_sync.specs.declared.Delta.{Delta}
use Rattle.ov_sync.specs.declared.Delta.TheVariants.{Put, Drop}
use Rattle.ov_sync.specs.Embed.{moved_delta}
use Rattle.ov_types.specs.declared.keys.DownKey.{DownKey}
use Rattle.ov_types.specs.declared.keys.DownValue.{DownValue}
use Rattle.ov_types.specs.declared.vpn.VpnKey.{VpnKey}
use Rattle.ov_types.specs.declared.vpn.VpnRoute.{VpnRoute}
use Rattle.bgp_session.specs.BgpVpn.Written.{IfPut}
use Rattle.node_core.specs.Told.{ChangeFits, down_value}
use Rattle.node_core.specs.NodeModel.Keys.{Vpn, of_down}
use Rattle.node_core.specs.NodeModel.Maps.{Change, Map, difference}
use Rattle.node_core.specs.NodeModel.Values.{Route}
use Rattle.node_routes.specs.Told.{IsWritable, route_change}
use Rattle.node_routes.proofs.Writable.{among_all}

-- ---- routes
moved_written : (ds : List (Delta VpnKey VpnRoute))
    → AllByRecursion (λ (c : Change). IfSome (route_change c) (λ d. IfPut d IsWritable)) (map (moved_delta Vpn Route) ds)
    → AllByRecursion (λ d. IfPut d IsWritable) ds
moved_written [] all = tt
moved_written (Put k r ∷ ds) all = (all.0, moved_written ds all.1)
moved_written (Drop k ∷ ds) all = (tt, moved_written ds all.1)

-- changes that lead to routes that can be written can be written
pub changes_of_routes_fit : (ds : List (Delta VpnKey VpnRoute)) (sent wanted : Map)
    → map (moved_delta Vpn Route) ds ≡ difference sent wanted
    → ((k : VpnKey) (r : VpnRoute) → get wanted (Vpn k) ≡ Some (Route r) → IsWritable r)
    → AllByRecursion (λ d. IfPut d IsWritable) ds
changes_of_routes_fit ds sent wanted are can =
    moved_written ds (subst (AllByRecursion (λ (c : Change). IfSome (route_change c) (λ d. IfPut d IsWritable))) (sym are) (among_all sent wanted can))

-- ---- items
pub moved_fit : (ds : List (Delta DownKey DownValue)) → AllByRecursion ChangeFits (map (moved_delta of_down down_value) ds)
    → AllByRecursion (λ d. ChangeFits (moved_delta of_down down_value d)) ds
moved_fit [] f = tt
moved_fit (d ∷ ds) f = (f.0, moved_fit ds f.1)
