-- What happens to the session of one peer: a list of events, the latest first.
--     is_up events      whether the session is up
--     opening events      how it was opened last
--     since_opened events, since_closed events      what came after it was opened last, and after it was closed last
--     until_closed events      what came before it was closed last
--     changes_in events      the changes that came, the earliest first
--     own events k      the value of the last change of the key k
use Rattle.std.specs.Prelude.{Bool, true, false, Option, Some, None, List, [], ◌∷◌, ◌++◌, if◌then◌else◌, option_and_then}
use Rattle.std.specs.Option.{option_or}
use Rattle.std.specs.Ordering.{eq_by_cmp}
use Rattle.std.specs.declared.cmp.Ordering.{Ordering}
use Rattle.ov_types.specs.contracts.vpn.VpnKeyOrd.TheImpl as vpn_keys
use Rattle.ov_types.specs.declared.vpn.VpnKey.{VpnKey}
use Rattle.ov_types.specs.declared.vpn.VpnRoute.{VpnRoute}
use Rattle.ov_sync.specs.declared.Delta.{Delta}
use Rattle.ov_sync.specs.declared.Delta.TheVariants.{Put, Drop}
use Rattle.ov_sync.specs.Keyed.{key_of, is_changed}

-- what the OPEN of the peer said: it names VPN-IPv4 routes as such that outlast its session, it kept those that it had,
-- and its AS number has four octets
pub record Opening : Type 0 where
  pub named : Bool
  pub kept : Bool
  pub wide : Bool

pub data RestartEvent : Type 0 where
  Opened : Opening → RestartEvent
  Closed : RestartEvent
  -- the time for which routes are kept has run out
  Expired : RestartEvent
  -- an UPDATE made these changes, and it marks the end of the first routes, or does not
  Updated : (changes : List (Delta VpnKey VpnRoute)) → (marks : Bool) → RestartEvent

abbrev pub is_up : List RestartEvent → Bool
is_up [] = false
is_up (Opened o ∷ before) = true
is_up (Closed ∷ before) = false
is_up (Expired ∷ before) = is_up before
is_up (Updated changes marks ∷ before) = is_up before

abbrev pub opening : List RestartEvent → Option Opening
opening [] = None
opening (Opened o ∷ before) = Some o
opening (Closed ∷ before) = opening before
opening (Expired ∷ before) = opening before
opening (Updated changes marks ∷ before) = opening before

-- while the session is up its period, as far as it came; up to where it was closed its last period
abbrev pub since_opened : List RestartEvent → List RestartEvent
since_opened [] = []
since_opened (Opened o ∷ before) = []
since_opened (Closed ∷ before) = Closed ∷ since_opened before
since_opened (Expired ∷ before) = Expired ∷ since_opened before
since_opened (Updated changes marks ∷ before) = Updated changes marks ∷ since_opened before

abbrev pub since_closed : List RestartEvent → List RestartEvent
since_closed [] = []
since_closed (Opened o ∷ before) = Opened o ∷ since_closed before
since_closed (Closed ∷ before) = []
since_closed (Expired ∷ before) = Expired ∷ since_closed before
since_closed (Updated changes marks ∷ before) = Updated changes marks ∷ since_closed before

-- nothing where it never was closed
abbrev pub until_closed : List RestartEvent → List RestartEvent
until_closed [] = []
until_closed (Opened o ∷ before) = until_closed before
until_closed (Closed ∷ before) = before
until_closed (Expired ∷ before) = until_closed before
until_closed (Updated changes marks ∷ before) = until_closed before

abbrev pub is_expiry : RestartEvent → Bool
is_expiry (Opened o) = false
is_expiry Closed = false
is_expiry Expired = true
is_expiry (Updated changes marks) = false

abbrev pub is_mark : RestartEvent → Bool
is_mark (Opened o) = false
is_mark Closed = false
is_mark Expired = false
is_mark (Updated changes marks) = marks

abbrev pub changes_in : List RestartEvent → List (Delta VpnKey VpnRoute)
changes_in [] = []
changes_in (Opened o ∷ before) = changes_in before
changes_in (Closed ∷ before) = changes_in before
changes_in (Expired ∷ before) = changes_in before
changes_in (Updated changes marks ∷ before) = changes_in before ++ changes

abbrev pub key_order : VpnKey → VpnKey → Ordering
key_order = vpn_keys.ghosts.cmp

abbrev pub value_of : Delta VpnKey VpnRoute → Option VpnRoute
value_of (Put k route) = Some route
value_of (Drop k) = None

-- the last change of a key
abbrev pub last_change : List (Delta VpnKey VpnRoute) → VpnKey → Option (Delta VpnKey VpnRoute)
last_change [] k = None
last_change (d ∷ later) k =
    option_or (last_change later k) (if eq_by_cmp key_order k (key_of d) then Some d else None)

-- what changes leave at a key: nothing where none is of that key, or where the last one drops it
abbrev pub told : List (Delta VpnKey VpnRoute) → VpnKey → Option VpnRoute
told changes k = option_and_then value_of (last_change changes k)

abbrev pub own : List RestartEvent → VpnKey → Option VpnRoute
own period k = told (changes_in period) k

abbrev pub has_change : List RestartEvent → VpnKey → Bool
has_change period k = is_changed key_order (changes_in period) k
