-- What is known of seats, of what their nodes hear, and of moments, and states in which no session that is down has
-- messages in flight.
use Rattle.std.specs.Prelude.{◌≡◌, ◌<◌, ℕ, List, [], ◌∷◌, ◌++◌, map, length, true, false}
use Rattle.std.specs.List.{AllByRecursion, concat, slice_index_or}
use Rattle.std.specs.declared.option.Option.TheVariants.{Some, None}
use Rattle.std.specs.Borrow.{Bor}
use Rattle.std.proofs.Common.{sym, subst}
use Rattle.ov_link.specs.declared.step.Input.TheVariants as input
use Rattle.schedule_script.specs.ConfigCheck.Rules.{controller_names, node_names}
use Rattle.schedule_script.proofs.ConfigCheck.Validity.{valid_iff}
use Rattle.node_model.specs.Members.{Member}
use Rattle.node_model.specs.Step.{Beginning, Phase, Post}
use Rattle.machine_laws.specs.MachineModel.Setup.{Name, Setup, checked}
use Rattle.machine_laws.specs.MachineModel.Session.{Message, Session, are_peers, is_idle}
use Rattle.machine_laws.specs.MachineModel.Network.{AreNamed, MachineState, config}
use Rattle.machine_laws.specs.MachineModel.Steps.{session_of}
use Rattle.machine_laws.specs.MachineModel.Events.{MachineEvent, is_node, next}
use Rattle.machine_laws.specs.MachineModel.Moments.{Each, EditIsValid, NoneGoesDown, cell, nodes}
use Rattle.machine_laws.proofs.MachineModel.Apart.{Apart, NamesApart, apart_of, names_apart, no_twins}
use Rattle.machine_laws.proofs.MachineModel.Twins.{NoTwins}
use Rattle.machine_laws.specs.Headline.{IsOfForm, IsWritten}
use Rattle.machine_laws.proofs.Names.{is_named}
use Rattle.running_nodes.specs.Seats.{Seat, Who, name_of, others_of, place_of, role_of, seat, whos}
use Rattle.running_nodes.specs.Steps.{BeginsAt}
use Rattle.running_nodes.specs.Stands.{Seats, message_size, octets_of}
use Rattle.running_nodes.specs.Taking.{closed, opened, taken, taken_all}
use Rattle.running_nodes.specs.Telling.{CanBeHeard, CanSend}
use Rattle.running_nodes.specs.declared.place.SessionPlace.{SessionPlace}
use Rattle.running_laws.specs.Hearing.{IsMessageOf, IsPartial, IsPhaseOf}
use Rattle.running_laws.specs.Moments.{IsMoment, unbroken}
use Rattle.running_laws.specs.Wiring.{AreSeats, GoesBy, HasFar, HasNumbers, HasSession, HasSessions, IsFound, IsPlace, IsPlaceOf}
use Rattle.running_laws.specs.Wiring.{ShowsAt, name_at, other_at}
use Rattle.running_laws.proofs.Quiet.{IsQuiet}

-- ---- of seats
pub record Wired : Type 0 where
  pub far : (x : Setup) (seats : List Seat) (p : SessionPlace) → IsWritten x → HasNumbers x → AreSeats x seats → IsPlace seats p → HasFar seats p
  pub place : (x : Setup) (seats : List Seat) (p : SessionPlace) → IsWritten x → HasNumbers x → AreSeats x seats → IsPlace seats p
      → place_of seats (name_at seats p) (other_at seats p) ≡ Some p
  pub place_is : (x : Setup) (seats : List Seat) (a b : Name) (p : SessionPlace) → IsWritten x → HasNumbers x → AreSeats x seats
      → place_of seats a b ≡ Some p → IsPlaceOf seats a b p
  pub session : (w : MachineState) (seats : List Seat) (p : SessionPlace) → IsWritten w.setup → HasNumbers w.setup → HasSessions w → AreSeats w.setup seats
      → IsPlace seats p → HasSession seats w p
  pub none : (w : MachineState) (seats : List Seat) (a b : Name) → IsWritten w.setup → HasNumbers w.setup → HasSessions w → AreSeats w.setup seats
      → place_of seats a b ≡ None → session_of w a b ≡ None
  pub found : (w : MachineState) (seats : List Seat) → IsWritten w.setup → HasNumbers w.setup → HasSessions w → AreSeats w.setup seats
      → AllByRecursion (IsFound seats w) w.sessions
  pub goes_by : (w : MachineState) (seats : List Seat) (p : SessionPlace) (s : Session) → IsWritten w.setup → HasNumbers w.setup → HasSessions w
      → Seats seats w → IsPlace seats p → session_of w (name_at seats p) (other_at seats p) ≡ Some s → GoesBy seats w p s
  pub nodes : (w : MachineState) (seats : List Seat) (k : ℕ) → IsWritten w.setup → HasNumbers w.setup → HasSessions w → Seats seats w → 0 < k
      → k < length seats → is_node w (name_of (seat seats k).who) ≡ true
  pub shown : (w : MachineState) (seats : List Seat) (name : Name) → IsWritten w.setup → HasNumbers w.setup → HasSessions w → Seats seats w
      → is_node w name ≡ true → (k : ℕ) × ShowsAt seats w name k

-- ---- of what a node hears
pub record HearingFacts : Type 0 where
  pub message : (x : Setup) → IsWritten x → HasNumbers x → (a b : Who) → Member a (whos x) → Member b (whos x)
      → (i : ℕ) → i < length (others_of a) → slice_index_or (others_of a) i None ≡ Some (name_of b)
      → (p : Post) → is_idle p.phase ≡ false → (m : Message) (after : Phase)
      → cell (are_peers (role_of a) (role_of b)) p.phase m ≡ Some after → CanSend (role_of b) (role_of a) m
      → (kept : List ℕ) (bytes : Bor (List ℕ)) → kept ++ bytes.now ≡ octets_of b (are_peers (role_of a) (role_of b)) m
      → (given : Beginning) (left : List ℕ) → BeginsAt a i p kept (input.Bytes i bytes) given left
      → (given ≡ taken a (are_peers (role_of a) (role_of b)) p m after) × (left ≡ [])
  -- messages in turn, and a first part of one more
  pub octets : (x : Setup) → IsWritten x → HasNumbers x → (a b : Who) → Member a (whos x) → Member b (whos x)
      → (i : ℕ) → i < length (others_of a) → slice_index_or (others_of a) i None ≡ Some (name_of b)
      → (p : Post) → is_idle p.phase ≡ false → IsPhaseOf (are_peers (role_of a) (role_of b)) p.phase
      → (ms : List Message) → NoneGoesDown (are_peers (role_of a) (role_of b)) p.phase ms
      → AllByRecursion (CanSend (role_of b) (role_of a)) ms
      → (part : List ℕ) → IsPartial a b part → (kept : List ℕ) (bytes : Bor (List ℕ))
      → kept ++ bytes.now ≡ concat (map (octets_of b (are_peers (role_of a) (role_of b))) ms) ++ part
      → (given : Beginning) (left : List ℕ) → BeginsAt a i p kept (input.Bytes i bytes) given left
      → (given ≡ taken_all a (are_peers (role_of a) (role_of b)) p ms) × (left ≡ part)
  -- how many octets a message of a session has
  pub sizes : (a b : Who) (m : Message) → CanSend (role_of a) (role_of b) m
      → IsMessageOf (are_peers (role_of a) (role_of b)) m
      → length (octets_of a (are_peers (role_of a) (role_of b)) m) ≡ message_size (name_of a) m
  pub opens : (x : Setup) → IsWritten x → HasNumbers x → (a b : Who) → Member a (whos x) → Member b (whos x)
      → (i : ℕ) → i < length (others_of a) → slice_index_or (others_of a) i None ≡ Some (name_of b)
      → (p : Post) (kept : List ℕ) (given : Beginning) (left : List ℕ) → BeginsAt a i p kept (input.Opened i) given left
      → (given ≡ opened a (are_peers (role_of a) (role_of b)) p) × (left ≡ [])
  pub closes : (a : Who) (i : ℕ) (p : Post) (kept : List ℕ) (given : Beginning) (left : List ℕ)
      → BeginsAt a i p kept (input.Closed i) given left → (given ≡ closed) × (left ≡ [])

-- ---- of moments
pub record Moments : Type 0 where
  pub written : (w : MachineState) → IsMoment w → IsWritten w.setup
  pub numbers : (w : MachineState) → IsMoment w → HasNumbers w.setup
  pub sessions : (w : MachineState) → IsMoment w → HasSessions w
  pub after : (w : MachineState) (e : MachineEvent) → IsMoment w → EditIsValid IsOfForm w e → IsMoment (next message_size w e)
  pub unbreaks : (w : MachineState) → IsMoment w → IsMoment (unbroken w)
  pub heard : (w : MachineState) → IsMoment w → AllByRecursion CanBeHeard w.sessions

pub record Facts : Type 0 where
  pub wired : Wired
  pub hears : HearingFacts
  pub moments : Moments

-- ---- states between moments
pub record IsRight (w : MachineState) : Type 0 where
  pub written : IsWritten w.setup
  pub numbers : HasNumbers w.setup
  pub sessions : HasSessions w
  pub quiet : Each IsQuiet w.sessions

right_names : (w : MachineState) → IsRight w → AreNamed w.setup.topology
right_names w r =
    let t = w.setup.topology in
    let c = w.setup.config in
    (is_named t c r.written.topology ((valid_iff t c).0 r.written.valid)).apart

pub right_twins : (w : MachineState) → IsRight w → NoTwins (map nodes w.sessions)
right_twins w r = subst NoTwins (sym r.sessions) (no_twins (checked w.setup) (right_names w r))

right_apart : (w : MachineState) → IsRight w → NamesApart w.setup.topology
right_apart w r =
    let t = w.setup.topology in
    names_apart t (apart_of (config ∷ controller_names t ++ node_names t) (right_names w r))

pub right_sites : (w : MachineState) → IsRight w → Apart (controller_names w.setup.topology)
right_sites w r = (right_apart w r).sites_apart

pub right_computers : (w : MachineState) → IsRight w → Apart (node_names w.setup.topology)
right_computers w r = (right_apart w r).computers_apart
