-- The routes of one session by their keys, and room for more.
--     standing es k      what stands at the key k: nothing, or room, with a route or without
--     has_room es k      whether there is room
--     routes_in es      the routes
use Rattle.std.specs.Prelude.{Bool, Option, Some, None, List, [], ◌∷◌, is_some}
use Rattle.std.specs.FinMap.{FinMap, empty, insert, remove}
use Rattle.std.specs.Map.{lookup}
use Rattle.std.specs.BTreeMap.{is_at}
use Rattle.ov_types.specs.declared.vpn.VpnKey.{VpnKey}
use Rattle.ov_types.specs.declared.vpn.VpnRoute.{VpnRoute}
use Rattle.bgp_restart.specs.Events.{key_order}

abbrev pub standing : List (VpnKey × Option VpnRoute) → VpnKey → Option (Option VpnRoute)
standing es k = lookup (is_at (key_order k)) es

abbrev pub has_room : List (VpnKey × Option VpnRoute) → VpnKey → Bool
has_room es k = is_some (standing es k)

-- a key with this route, or without one
abbrev pub with_route : FinMap key_order VpnRoute → VpnKey → Option VpnRoute → FinMap key_order VpnRoute
with_route routes k None = remove routes k
with_route routes k (Some route) = insert routes k route

abbrev pub routes_in : List (VpnKey × Option VpnRoute) → FinMap key_order VpnRoute
routes_in [] = empty
routes_in (e ∷ es) = with_route (routes_in es) e.0 e.1
