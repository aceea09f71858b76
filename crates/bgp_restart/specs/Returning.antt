-- A peer that comes back with what it had.
use Rattle.std.specs.Prelude.{◌≡◌, true, false, Option, Some, List, ◌∷◌, ◌++◌, option_map}
use Rattle.std.specs.List.{list_any, AllByRecursion}
use Rattle.ov_types.specs.declared.vpn.VpnKey.{VpnKey}
use Rattle.ov_types.specs.declared.vpn.VpnRoute.{VpnRoute}
use Rattle.ov_sync.specs.declared.Delta.{Delta}
use Rattle.ov_sync.specs.declared.Delta.TheVariants.{Put, Drop}
use Rattle.bgp_restart.specs.Events.{RestartEvent, is_up, opening, since_opened, since_closed, until_closed, is_expiry, is_mark}
use Rattle.bgp_restart.specs.Events.{own, has_change, changes_in}
use Rattle.bgp_restart.specs.Keeping.{says_named, says_kept, held_at}

-- what the period before had
abbrev pub had : List RestartEvent → VpnKey → Option VpnRoute
had events = own (since_opened (until_closed events))

-- a change puts what the period before had
abbrev pub PutsAgain : List RestartEvent → Delta VpnKey VpnRoute → Type 0
PutsAgain events (Put k route) = Some route ≡ had events k
PutsAgain events (Drop k) = ⊥

-- the session is up again: the peer named the family before and keeps its routes now, the time for them did not run
-- out, and each change so far puts what the period before had
pub record Returns (events : List RestartEvent) : Type 0 where
  pub up : is_up events ≡ true
  pub named : says_named (opening (until_closed events)) ≡ true
  pub kept : says_kept (opening events) ≡ true
  pub in_time : list_any is_expiry (since_closed events) ≡ false
  pub again : AllByRecursion (PutsAgain events) (changes_in (since_opened events))

-- the end of the first routes is not marked yet
abbrev pub NotMarked : List RestartEvent → Type 0
NotMarked events = list_any is_mark (since_opened events) ≡ false

-- the end of the first routes was marked when each key that had a route before was put
pub record MarkedAfterAll (events : List RestartEvent) : Type 0 where
  pub later : List RestartEvent
  pub mark : RestartEvent
  pub earlier : List RestartEvent
  pub came : since_opened events ≡ later ++ mark ∷ earlier
  pub is_mark : is_mark mark ≡ true
  pub all : (k : VpnKey) (route : VpnRoute) → had events k ≡ Some route → has_change earlier k ≡ true

-- the route held under a key, stale or fresh
abbrev pub route_at : List RestartEvent → VpnKey → Option VpnRoute
route_at events k = option_map (λ h. h.0) (held_at events k)
