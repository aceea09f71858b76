-- The changes that lead to routes that can be written.
use Rattle.std.proofs.Common.{◌≡◌, Bool, List, [], ◌∷◌, Some, IfSome, refl}
use Rattle.std.specs.declared.cmp.Ordering.{Ordering}
use Rattle.std.specs.List.{AllByRecursion}
use Rattle.std.specs.FinMap.{FinMap, get}
use Rattle.ov_types.specs.declared.vpn.VpnKey.{VpnKey}
use Rattle.ov_types.specs.declared.vpn.VpnRoute.{VpnRoute}
use Rattle.ov_sync.specs.declared.Delta.{Delta}
use Rattle.ov_sync.specs.declared.Delta.TheVariants.{Put, Drop}
use Rattle.ov_sync.specs.Embed.{moved_delta}
use Rattle.ov_sync.specs.Keyed as keyed
use Rattle.ov_sync.specs.Keyed.{PutOf, Values}
use Rattle.ov_sync.proofs.KeyedLaws.{difference_puts}
use Rattle.bgp_vpn.specs.Written.{IfPut}
use Rattle.node_model.specs.Keys.{Key, Low, Vpn, Row, Publish, Subscribe}
use Rattle.node_model.specs.Values.{Value, Object, Route, Entry, Label, same_value}
use Rattle.node_model.specs.Maps.{Map, Change, difference}
use Rattle.node_routes.specs.Told.{IsWritable, route_change}

pub is_route_change : (d : Delta VpnKey VpnRoute) → route_change (moved_delta Vpn Route d) ≡ Some d
is_route_change (Put k r) = refl
is_route_change (Drop k) = refl

-- a value that is a route of a key of routes can be written
abbrev RouteCan : Key → Value → Type 0
RouteCan (Vpn k) (Route r) = IsWritable r
RouteCan _ _ = Unit {0}

routes_can : (m : Map) → ((k : VpnKey) (r : VpnRoute) → get m (Vpn k) ≡ Some (Route r) → IsWritable r) → Values RouteCan m
routes_can m can (Vpn k) (Route r) e = can k r e
routes_can m can (Vpn k) (Object v) e = tt
routes_can m can (Vpn k) (Entry v) e = tt
routes_can m can (Vpn k) (Label v) e = tt
routes_can m can (Low k) v e = tt
routes_can m can (Row i p) v e = tt
routes_can m can (Publish i p) v e = tt
routes_can m can (Subscribe i) v e = tt

abbrev ChangeCan : Change → Type 0
ChangeCan c = IfSome (route_change c) (λ d. IfPut d IsWritable)

put_can : (k : Key) (v : Value) → RouteCan k v → ChangeCan (Put k v)
put_can (Vpn k) (Route r) can = can
put_can (Vpn k) (Object v) can = tt
put_can (Vpn k) (Entry v) can = tt
put_can (Vpn k) (Label v) can = tt
put_can (Low k) v can = tt
put_can (Row i p) v can = tt
put_can (Publish i p) v can = tt
put_can (Subscribe i) v can = tt

drop_can : (k : Key) → ChangeCan (Drop k)
drop_can (Vpn k) = tt
drop_can (Low k) = tt
drop_can (Row i p) = tt
drop_can (Publish i p) = tt
drop_can (Subscribe i) = tt

change_can : (c : Change) → PutOf RouteCan c → ChangeCan c
change_can (Put k v) can = put_can k v can
change_can (Drop k) can = drop_can k

changes_can : (cs : List Change) → AllByRecursion (PutOf RouteCan) cs → AllByRecursion ChangeCan cs
changes_can [] all = tt
changes_can (c ∷ cs) all = (change_can c all.0, changes_can cs all.1)

pub among_all : (sent wanted : Map) → ((k : VpnKey) (r : VpnRoute) → get wanted (Vpn k) ≡ Some (Route r) → IsWritable r)
    → AllByRecursion ChangeCan (difference sent wanted)
among_all sent wanted can = changes_can (difference sent wanted) (difference_puts RouteCan same_value sent wanted (routes_can wanted can))

routes_written : (ds : List (Delta VpnKey VpnRoute)) → AllByRecursion (PutOf (λ (k : VpnKey) (r : VpnRoute). IsWritable r)) ds
    → AllByRecursion (λ d. IfPut d IsWritable) ds
routes_written [] all = tt
routes_written ((Put k r) ∷ ds) all = (all.0, routes_written ds all.1)
routes_written ((Drop k) ∷ ds) all = (tt, routes_written ds all.1)

pub of_routes : (order : VpnKey → VpnKey → Ordering) (same : VpnRoute → VpnRoute → Bool) (sent wanted : FinMap order VpnRoute)
    → Values (λ k r. IsWritable r) wanted → AllByRecursion (λ d. IfPut d IsWritable) (keyed.difference same sent wanted)
of_routes order same sent wanted can =
    routes_written (keyed.difference same sent wanted) (difference_puts (λ (k : VpnKey) (r : VpnRoute). IsWritable r) same sent wanted can)
