-- What octets bring to one end of a session between control nodes, message by message.
use Rattle.std.specs.Prelude.{◌≡◌, ℕ, List, [], ◌∷◌, ◌++◌, drop, Bool, Option, Some, None}
use Rattle.ov_types.specs.declared.prefix.Addr.{Addr}
use Rattle.ov_types.specs.declared.vpn.VpnKey.{VpnKey}
use Rattle.ov_types.specs.declared.vpn.VpnRoute.{VpnRoute}
use Rattle.ov_sync.specs.declared.Delta.{Delta}
use Rattle.bgp_wire.specs.declared.fault.WireFault.{WireFault}
use Rattle.bgp_wire.specs.Content.{Content, Opens, Notifies, KeepsAlive}
use Rattle.bgp_wire.specs.Frames.{IsProperPrefix}
use Rattle.bgp_wire.specs.Messages.{BeginsWith, HasFault}
use Rattle.bgp_wire.specs.Spelling.{open_fields, spelling}
use Rattle.bgp_session.specs.declared.event.Cause.{Cause}
use Rattle.bgp_session.specs.declared.event.Reply.{Reply}
use Rattle.bgp_session.specs.declared.event.Reply.TheVariants as reply
use Rattle.bgp_session.specs.declared.event.State.{State}
use Rattle.bgp_session.specs.Happenings.{SessionFields, Happening, Passes, Sends, ComesUp, HandsOut, GoesDown}
use Rattle.bgp_session.specs.Happenings.{after, answer}
use Rattle.bgp_session.specs.Inputs.{Came, BadFrame, Brings}

-- ---- one message
-- the octets begin with a message, which brings this, and the rest follows it
pub record IsMessageNext (s : SessionFields) (octets : List ℕ) (came : Came) (rest : List ℕ) : Type 0 where
  pub content : Content
  pub length : ℕ
  pub begins : BeginsWith octets content length
  pub brings : Brings s.asn s.peer.address s.wide content came
  pub rest_is : rest ≡ drop length octets

-- the octets begin with no message, and have this fault
pub record IsFaultNext (octets : List ℕ) (came : Came) (rest : List ℕ) : Type 0 where
  pub fault : WireFault
  pub has : HasFault octets fault
  pub came_is : came ≡ BadFrame fault
  pub rest_is : rest ≡ []

-- what octets bring first, and the octets after it
pub data IsNext (s : SessionFields) (octets : List ℕ) (came : Came) (rest : List ℕ) : Type 0 where
  message : IsMessageNext s octets came rest → IsNext s octets came rest
  fault : IsFaultNext octets came rest → IsNext s octets came rest

-- ---- all of them, in order, up to one that takes the session down. Octets of a message that is not whole bring
-- nothing
-- nothing is heard after that
abbrev pub GoesOn : Happening → List Came → Type 0 → Type 0
GoesOn (GoesDown cause reply) more Then = more ≡ []
GoesOn _ more Then = Then

abbrev pub Hears : SessionFields → List ℕ → List Came → Type 0
Hears s octets [] = IsProperPrefix octets
Hears s octets (came ∷ more) =
    (rest : List ℕ) × IsNext s octets came rest × GoesOn (answer s came) more (Hears (after s came) rest more)

-- ---- what comes of it
-- the OPEN of the speaker of this system at this address
abbrev pub open_octets : ℕ → Addr → List ℕ
open_octets asn id = spelling (Opens (open_fields (record { asn = asn; id = id })))

abbrev pub reply_octets : ℕ → Addr → Reply → List ℕ
reply_octets asn id reply.Hello = open_octets asn id
reply_octets asn id reply.Keepalive = spelling KeepsAlive

-- a NOTIFICATION of this code and subcode, where there is one
abbrev pub notification : Option (ℕ × ℕ) → List (List ℕ)
notification None = []
notification (Some r) = spelling (Notifies r.0 r.1) ∷ []

pub record RouteHearing : Type 0 where
  pub replies : List (List ℕ)
  -- the changes of routes that were handed out, in order
  pub changes : List (Delta VpnKey VpnRoute)
  pub state : State
  -- whether the session reads numbers of four octets in UPDATEs from then on
  pub wide : Bool
  -- why the session went down, where it did
  pub cause : Option Cause

abbrev pub and_reply : List ℕ → RouteHearing → RouteHearing
and_reply octets h = record h { replies = octets ∷ h.replies }

abbrev pub and_changes : List (Delta VpnKey VpnRoute) → RouteHearing → RouteHearing
and_changes changes h = record h { changes = changes ++ h.changes }

-- by a session of the speaker at this address. Before it goes down it notifies, where there is something to notify
abbrev pub heard : Addr → SessionFields → List Came → RouteHearing
heard id s [] = record { replies = []; changes = []; state = s.state; wide = s.wide; cause = None }
heard id s (came ∷ more) =
    elim (answer s came) [
      | Passes ↦ heard id (after s came) more
      | Sends r ↦ and_reply (reply_octets s.asn id r) (heard id (after s came) more)
      | ComesUp ↦ heard id (after s came) more
      | HandsOut changes ↦ and_changes changes (heard id (after s came) more)
      | GoesDown cause code ↦ record {
        replies = notification code;
        changes = [];
        state = (after s came).state;
        wide = (after s came).wide;
        cause = Some cause;
      }
    ]
