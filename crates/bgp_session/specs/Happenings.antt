-- What an input makes of a session.
use Rattle.std.specs.Prelude.{◌≡◌, ℕ, List, Bool, false, Option, Some, None}
use Rattle.std.specs.Option.{option_map}
use Rattle.ov_types.specs.declared.rows.NodeId.{NodeId}
use Rattle.ov_types.specs.declared.vpn.VpnKey.{VpnKey}
use Rattle.ov_types.specs.declared.vpn.VpnRoute.{VpnRoute}
use Rattle.ov_sync.specs.declared.Delta.{Delta}
use Rattle.bgp_wire.specs.declared.fault.WireFault.{WireFault}
use Rattle.bgp_wire.specs.Content.{Content}
use Rattle.bgp_wire.specs.Faults.{fault}
use Rattle.bgp_session.specs.declared.event.State.{State}
use Rattle.bgp_session.specs.declared.event.State.TheVariants.{Idle}
use Rattle.bgp_session.specs.declared.event.Reply.{Reply}
use Rattle.bgp_session.specs.declared.event.Reply.TheVariants.{Hello, Keepalive}
use Rattle.bgp_session.specs.declared.event.Cause.{Cause}
use Rattle.bgp_session.specs.declared.event.Cause.TheVariants.{Wire}
use Rattle.bgp_session.specs.declared.event.SessionEvent.{SessionEvent}
use Rattle.bgp_session.specs.declared.event.SessionEvent.TheVariants as events
use Rattle.bgp_session.specs.declared.table.Act.{Act}
use Rattle.bgp_session.specs.declared.table.Act.TheVariants.{Nothing, SendOpen, SendKeepalive, ComeUp, HandOut}
use Rattle.bgp_session.specs.declared.table.Act.TheVariants.{AnswerFault, AnswerOrder, GoDown}
use Rattle.bgp_session.specs.Inputs.{Came, RightOpen, RightUpdate, fault_of, cause_of, Brings}
use Rattle.bgp_session.specs.Table.{cell_at, state_in, act_in}

-- an event, with a NOTIFICATION by its code and subcode
pub data Happening : Type 0 where
  Passes : Happening
  Sends : Reply → Happening
  ComesUp : Happening
  HandsOut : List (Delta VpnKey VpnRoute) → Happening
  GoesDown : Cause → Option (ℕ × ℕ) → Happening

abbrev pub happening_of : SessionEvent → Happening
happening_of events.Quiet = Passes
happening_of (events.Send reply) = Sends reply
happening_of events.Up = ComesUp
happening_of (events.Deltas deltas) = HandsOut deltas.items
happening_of (events.Down cause reply) = GoesDown cause (option_map (λ r. (r.0, r.1)) reply)

-- a session that goes down for a fault sends its code and subcode
abbrev pub refusal : WireFault → Happening
refusal f = GoesDown (Wire f) (Some (f.code, f.subcode))

-- a finite state machine error (RFC 4271, section 6.6)
abbrev pub out_of_order : WireFault
out_of_order = fault 5 0

abbrev pub refusal_of : Option WireFault → Happening
refusal_of None = Passes
refusal_of (Some f) = refusal f

abbrev pub end_of : Option Cause → Happening
end_of None = Passes
end_of (Some cause) = GoesDown cause None

abbrev pub changes_of : Came → Happening
changes_of (RightUpdate deltas) = HandsOut deltas
changes_of _ = Passes

-- what an act makes of an input
abbrev pub happening : Act → Came → Happening
happening Nothing came = Passes
happening SendOpen came = Sends Hello
happening SendKeepalive came = Sends Keepalive
happening ComeUp came = ComesUp
happening HandOut came = changes_of came
happening AnswerFault came = refusal_of (fault_of came)
happening AnswerOrder came = refusal out_of_order
happening GoDown came = end_of (cause_of came)

-- a session: its autonomous system, its peer, its state, and whether it reads wide: numbers of four octets in UPDATEs
pub record SessionFields : Type 0 where
  pub asn : ℕ
  pub peer : NodeId
  pub state : State
  pub wide : Bool

abbrev pub idle_session : ℕ → NodeId → SessionFields
idle_session asn peer = record { asn = asn; peer = peer; state = Idle; wide = false }

-- the state and the event that the cell of a state and an input says
abbrev pub next_state : State → Came → State
next_state state came = state_in (cell_at state came)

abbrev pub next_happening : State → Came → Happening
next_happening state came = happening (act_in (cell_at state came)) came

-- a right OPEN says how to read
abbrev pub wide_by : Came → Bool → Bool
wide_by (RightOpen wide) before = wide
wide_by _ before = before

-- how a session reads: as the last right OPEN says, until the session is over
abbrev pub wide_in : State → Came → Bool → Bool
wide_in Idle came before = false
wide_in _ came before = wide_by came before

-- a session after an input, and what the input makes of it
abbrev pub after : SessionFields → Came → SessionFields
after s came =
    record s { state = next_state s.state came; wide = wide_in (next_state s.state came) came s.wide }

abbrev pub answer : SessionFields → Came → Happening
answer s came = next_happening s.state came

-- a session takes a message: it is an input, and the cell of its state and that input says the rest
pub record Takes (old : SessionFields) (message : Content) (new : SessionFields) (event : SessionEvent) : Type 0 where
  pub came : Came
  pub brings : Brings old.asn old.peer.address old.wide message came
  pub state : new ≡ after old came
  pub happens : happening_of event ≡ answer old came
