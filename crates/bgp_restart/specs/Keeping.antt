-- Which routes of a peer are held after a list of events, the latest first, and which of them are stale (RFC 4724,
-- section 4.2).
--     left_over events k      what the last closed period has for the key k, as long as that is kept
--     held_at events k      the route held under k, and whether it is stale
--     StandsFor events r      a value is what these events lead to
--     Follows old event new      an event leads from one value to the other
use Rattle.std.specs.Prelude.{◌≡◌, refl, Bool, true, false, ◌&&◌, not, Option, Some, None, List, ◌∷◌, if◌then◌else◌}
use Rattle.std.specs.Prelude.{map, option_map, IfSome, Decides}
use Rattle.std.specs.List.{list_any}
use Rattle.std.specs.Coded.{Coded, code_by, coded×, coded_bool}
use Rattle.std.specs.FinMap as finite
use Rattle.std.specs.FinMap.{FinMap, get, entries}
use Rattle.ov_types.specs.contracts.vpn.VpnKey as vpn_keys
use Rattle.ov_types.specs.contracts.vpn.VpnRoute as vpn_routes
use Rattle.ov_types.specs.declared.vpn.VpnKey.{VpnKey}
use Rattle.ov_types.specs.declared.vpn.VpnRoute.{VpnRoute}
use Rattle.ov_sync.specs.declared.Delta.{Delta}
use Rattle.bgp_wire.specs.Content.{UpdateFields}
use Rattle.bgp_vpn.specs.Updates.{Changes}
use Rattle.bgp_restart.specs.Marks.{IsEnd}
use Rattle.bgp_restart.specs.Events.{Opening, RestartEvent, Updated, is_up, opening, since_opened, since_closed, until_closed}
use Rattle.bgp_restart.specs.Events.{is_expiry, is_mark, key_order, own, has_change}

-- a route, which is stale or fresh
abbrev pub marked : (is_stale : Bool) → Option VpnRoute → Option (VpnRoute × Bool)
marked is_stale = option_map (λ route. (route, is_stale))

abbrev pub says_named : Option Opening → Bool
says_named None = false
says_named (Some o) = o.named

abbrev pub says_kept : Option Opening → Bool
says_kept None = false
says_kept (Some o) = o.kept

-- the last closed period keeps what it had where its OPEN named the family, until the time for it runs out
abbrev pub left_over : List RestartEvent → VpnKey → Option VpnRoute
left_over events k =
    if says_named (opening (until_closed events)) && not (list_any is_expiry (since_closed events))
    then own (since_opened (until_closed events)) k else None

-- while the session is up: where the period has a change of the key its own value, and else what is left over from the
-- period before, where the peer kept it, until the end of the first routes is marked
abbrev pub held_up : List RestartEvent → VpnKey → Option (VpnRoute × Bool)
held_up events k =
    if has_change (since_opened events) k then marked false (own (since_opened events) k)
    else (if says_kept (opening events) && not (list_any is_mark (since_opened events))
    then marked true (left_over events k) else None)

-- while it is down what is left over from its last period
abbrev pub held_at : List RestartEvent → VpnKey → Option (VpnRoute × Bool)
held_at events k = if is_up events then held_up events k else marked true (left_over events k)

-- the session, and the fresh and the stale routes
pub record Kept : Type 0 where
  pub up : Bool
  pub named : Bool
  pub wide : Bool
  pub fresh : FinMap key_order VpnRoute
  pub stale : FinMap key_order VpnRoute

abbrev coded_routes : Coded (FinMap key_order VpnRoute)
coded_routes = finite.code vpn_keys.the_row.coded vpn_routes.the_row.coded

-- how values are told apart: by the codes of their parts
abbrev pub coded_kept : Coded Kept
coded_kept =
    code_by (Bool × (Bool × (Bool × (FinMap key_order VpnRoute × FinMap key_order VpnRoute))))
    (coded× coded_bool (coded× coded_bool (coded× coded_bool (coded× coded_routes coded_routes))))
    (λ r. (r.up, (r.named, (r.wide, (r.fresh, r.stale)))))
    (λ p. record { up = p.0; named = p.1.0; wide = p.1.1.0; fresh = p.1.1.1.0; stale = p.1.1.1.1 }) (λ _. refl)

abbrev pub fresh_or : Option VpnRoute → Option VpnRoute → Option (VpnRoute × Bool)
fresh_or (Some route) stale = Some (route, false)
fresh_or None stale = marked true stale

-- the route held under a key, and whether it is stale
abbrev pub held : Kept → VpnKey → Option (VpnRoute × Bool)
held r k = fresh_or (get r.fresh k) (get r.stale k)

abbrev pub row_of : VpnKey × (VpnRoute × Bool) → VpnKey × VpnRoute × Bool
row_of e = (e.0, e.1.0, e.1.1)

-- rows are all that is held, in the order of the keys
pub record AreRows (r : Kept) (rows : List (VpnKey × VpnRoute × Bool)) : Type 0 where
  pub all : FinMap key_order (VpnRoute × Bool)
  pub is_held : (k : VpnKey) → get all k ≡ held r k
  pub in_order : rows ≡ map row_of (entries all)

pub record StandsFor (events : List RestartEvent) (r : Kept) : Type 0 where
  pub up : r.up ≡ is_up events
  pub opening : IfSome (opening events) (λ o. (r.named ≡ o.named) × (r.wide ≡ o.wide))
  pub held : (k : VpnKey) → held r k ≡ held_at events k

abbrev pub Follows : Kept → RestartEvent → Kept → Type 0
Follows old event new = (events : List RestartEvent) → StandsFor events old → StandsFor (event ∷ events) new

-- an UPDATE as an event, read wide or not: its changes, and whether it marks the end of the first routes
pub record IsUpdate (wide : Bool) (parts : UpdateFields) (event : RestartEvent) : Type 0 where
  pub changes : List (Delta VpnKey VpnRoute)
  pub marks : Bool
  pub is : event ≡ Updated changes marks
  pub made : Changes wide parts changes
  pub decides : Decides marks (IsEnd parts)
