-- One step of hearing: what octets begin with comes to a session, and is added to what was heard before.
use Rattle.std.specs.Prelude.{◌≡◌, ◌<◌, ℕ, List, [], ◌∷◌, ◌++◌, length, Option, Some, None}
use Rattle.ov_types.specs.declared.prefix.Addr.{Addr}
use Rattle.ov_types.specs.declared.vpn.VpnKey.{VpnKey}
use Rattle.ov_types.specs.declared.vpn.VpnRoute.{VpnRoute}
use Rattle.ov_sync.specs.declared.Delta.{Delta}
use Rattle.bgp_session.specs.declared.event.Cause.{Cause}
use Rattle.bgp_session.specs.declared.event.SessionEvent.{SessionEvent}
use Rattle.bgp_session.specs.Happenings.{SessionFields, Happening, Sends, HandsOut, GoesDown, happening_of}
use Rattle.bgp_session.specs.Happenings.{after, answer}
use Rattle.bgp_session.specs.Inputs.{Came}
use Rattle.node_routes.specs.Hearing.{IsNext, reply_octets, notification}
use Rattle.node_routes.specs.declared.hearing.HeardRoutes.{HeardRoutes as HeardSoFar}

-- a session takes what octets begin with, and these octets are left
pub record TakesNext (old : SessionFields) (octets : List ℕ) (new : SessionFields) (event : SessionEvent) (rest : List ℕ)
    : Type 0 where
  pub came : Came
  pub next : IsNext old octets came rest
  pub state : new ≡ after old came
  pub happens : happening_of event ≡ answer old came
  pub shorter : length rest < length octets

-- what is sent at what happens, by the speaker of this system at this address
abbrev pub replied : ℕ → Addr → Happening → List (List ℕ)
replied asn id (Sends r) = reply_octets asn id r ∷ []
replied asn id (GoesDown cause code) = notification code
replied asn id _ = []

-- the changes that are handed out
abbrev pub handed : Happening → List (Delta VpnKey VpnRoute)
handed (HandsOut changes) = changes
handed _ = []

-- why the session goes down, where it does
abbrev pub cause_of : Happening → Option Cause
cause_of (GoesDown cause code) = Some cause
cause_of _ = None

-- what happens is added to what was heard
pub record IsAdded (asn : ℕ) (id : Addr) (happens : Happening) (old new : HeardSoFar) : Type 0 where
  pub replies : new.replies ≡ old.replies ++ replied asn id happens
  pub changes : new.changes.items ≡ old.changes.items ++ handed happens
  pub cause : new.cause ≡ cause_of happens
