-- What comes to a session.
use Rattle.std.specs.Prelude.{◌≡◌, ◌==◌, not, ℕ, List, Bool, Option, Some, None}
use Rattle.ov_types.specs.declared.prefix.Addr.{Addr}
use Rattle.ov_types.specs.declared.vpn.VpnKey.{VpnKey}
use Rattle.ov_types.specs.declared.vpn.VpnRoute.{VpnRoute}
use Rattle.ov_sync.specs.declared.Delta.{Delta}
use Rattle.bgp_wire.specs.declared.fault.WireFault.{WireFault}
use Rattle.bgp_wire.specs.Content.{OpenFields, UpdateFields, Content, Opens, Updates, Notifies, KeepsAlive}
use Rattle.bgp_wire.specs.Faults.{fault, fault_if, ◌then_check◌}
use Rattle.bgp_wire.specs.Opens.{asn_of, is_wide}
use Rattle.bgp_vpn.specs.Updates.{Changes, HasUpdateFault}
use Rattle.bgp_session.specs.declared.event.Cause.{Cause}
use Rattle.bgp_session.specs.declared.event.Cause.TheVariants.{Notified, Ended}
use Rattle.bgp_session.specs.declared.input.Input.{Input}
use Rattle.bgp_session.specs.declared.input.Input.TheVariants as inputs

-- the inputs of a session: its connection is opened or closed, a message comes, or octets that are none. An OPEN is
-- right where it is of the session's autonomous system and of its peer, and wide where its speaker has numbers of four
-- octets (RFC 6793); an UPDATE is right where it passes all checks
pub data Came : Type 0 where
  Opened : Came
  RightOpen : (wide : Bool) → Came
  WrongOpen : WireFault → Came
  KeepaliveCame : Came
  RightUpdate : List (Delta VpnKey VpnRoute) → Came
  WrongUpdate : WireFault → Came
  NotificationCame : (code subcode : ℕ) → Came
  BadFrame : WireFault → Came
  Closed : Came

abbrev pub came_of : Input → Came
came_of inputs.Opened = Opened
came_of (inputs.RightOpen wide) = RightOpen wide
came_of (inputs.WrongOpen f) = WrongOpen f
came_of inputs.Keepalive = KeepaliveCame
came_of (inputs.RightUpdate deltas) = RightUpdate deltas.items
came_of (inputs.WrongUpdate f) = WrongUpdate f
came_of (inputs.Notification code subcode) = NotificationCame code subcode
came_of (inputs.BadFrame f) = BadFrame f
came_of inputs.Closed = Closed

-- the fault of an input that has one
abbrev pub fault_of : Came → Option WireFault
fault_of (WrongOpen f) = Some f
fault_of (WrongUpdate f) = Some f
fault_of (BadFrame f) = Some f
fault_of _ = None

-- why a session goes down at an input, other than for a fault
abbrev pub cause_of : Came → Option Cause
cause_of (NotificationCame code subcode) = Some (Notified code subcode)
cause_of Closed = Some Ended
cause_of _ = None

-- an OPEN message error: another autonomous system, another identifier (RFC 4271, section 6.2)
abbrev pub bad_peer_as : WireFault
bad_peer_as = fault 2 2

abbrev pub bad_identifier : WireFault
bad_identifier = fault 2 3

-- the first check that fails on an OPEN that came to a session of this autonomous system with the peer of this address
abbrev pub open_refusal : ℕ → Addr → OpenFields → Option WireFault
open_refusal asn peer fields =
    fault_if (not (asn_of fields == asn)) bad_peer_as then_check fault_if (not (fields.id == peer.0)) bad_identifier

abbrev pub came_by_open : Bool → Option WireFault → Came
came_by_open wide None = RightOpen wide
came_by_open wide (Some f) = WrongOpen f

-- an UPDATE, read wide or not, that passes all checks brings its changes, and else its fault
pub data BringsUpdate (wide : Bool) (parts : UpdateFields) (came : Came) : Type 0 where
  right : (deltas : List (Delta VpnKey VpnRoute)) → Changes wide parts deltas → came ≡ RightUpdate deltas
      → BringsUpdate wide parts came
  wrong : (f : WireFault) → HasUpdateFault wide parts f → came ≡ WrongUpdate f → BringsUpdate wide parts came

-- what a message brings to a session of this autonomous system with the peer of this address, that reads wide or not
abbrev pub Brings : ℕ → Addr → Bool → Content → Came → Type 0
Brings asn peer wide (Opens fields) came = came ≡ came_by_open (is_wide fields) (open_refusal asn peer fields)
Brings asn peer wide (Updates parts) came = BringsUpdate wide parts came
Brings asn peer wide (Notifies code subcode) came = came ≡ NotificationCame code subcode
Brings asn peer wide KeepsAlive came = came ≡ KeepaliveCame
