-- What is asked of the seats of a network at a moment, for one step at a time.
use Rattle.std.specs.Prelude.{◌≡◌, ◌<◌, ℕ, suc, List, map, true, false, IsTrue}
use Rattle.std.specs.declared.option.Option.{Option}
use Rattle.std.specs.declared.option.Option.TheVariants.{Some, None}
use Rattle.std.specs.List.{AllByRecursion}
use Rattle.config_types.specs.declared.edit.Edit.{Edit}
use Rattle.config_types.specs.Form.{has_edit_form}
use Rattle.config_check.specs.Edits.{edit_fault}
use Rattle.running_nodes.specs.MachineModel.Setup.{Name, checked}
use Rattle.running_nodes.specs.MachineModel.Session as session
use Rattle.running_nodes.specs.MachineModel.Session.{Session}
use Rattle.running_nodes.specs.MachineModel.Network.{MachineState}
use Rattle.running_nodes.specs.MachineModel.Steps as steps
use Rattle.running_nodes.specs.MachineModel.Steps.{connect_if, deliver, deliver_octets, session_of}
use Rattle.running_nodes.specs.MachineModel.Events as events
use Rattle.running_nodes.specs.MachineModel.Events.{MachineEvent, Break, DeliverOctets, Edits as Changes, Lose, Restart, forwarders, is_node}
use Rattle.running_nodes.specs.MachineModel.Events.{next, shown}
use Rattle.running_nodes.specs.Seats.{Seat, notice_at, seat, seat_named}
use Rattle.running_nodes.specs.Stands.{StandsFor, message_size}
use Rattle.running_nodes.specs.Steps.{forwarders_of, shown_by, unbroken as unbroken_seat, with_break_at}
use Rattle.running_laws.specs.Moments.{unbroken}
use Rattle.net_machine.specs.declared.ends.SessionEnds.{SessionEnds}
use Rattle.net_machine.specs.Connections.{Connects, may_connect}
use Rattle.net_machine.specs.Deliveries.{Delivers, DeliversOctets}
use Rattle.net_machine.specs.Happenings.{EditsUnless}
use Rattle.running_laws.specs.Losing.{restarted}
use Rattle.net_machine.specs.Losses.{lost}
use Rattle.net_machine.specs.Seating.{ends_of, is_down, turned, waiting}
use Rattle.net_machine.specs.Settling.{is_rested}

-- ---- what the ends of a session say of it
pub record Says (seats : List Seat) (e : SessionEnds) (s : Session) : Type 0 where
  pub waits : waiting seats e ≡ session.waiting s
  pub waits_back : waiting seats (turned e) ≡ session.waiting (session.turned s)
  pub has_notice : notice_at seats e.near ≡ s.near.notice
  pub down : is_down seats e ≡ s.is_down
  pub may : may_connect seats e ≡ steps.may_connect s
  pub rests : is_rested seats e ≡ steps.is_rested s

pub record SaysOf (seats : List Seat) (w : MachineState) (a b : Name) (e : SessionEnds) : Type 0 where
  pub session : Session
  pub found : session_of w a b ≡ Some session
  pub says : Says seats e session

-- a session among all has its two ends, by which it is found
pub record IsStood (seats : List Seat) (w : MachineState) (s : Session) : Type 0 where
  pub ends : SessionEnds
  pub are : ends_of seats s.near.name s.far.name ≡ Some ends
  pub found : session_of w s.near.name s.far.name ≡ Some s
  pub back : session_of w s.far.name s.near.name ≡ Some (session.turned s)
  pub earlier : events.is_earlier w.sessions s.near.name s.far.name ≡ true

-- no node, and the configuration node
abbrev pub IsNotAfter : Option ℕ → Type 0
IsNotAfter (Some (suc k)) = ⊥
IsNotAfter _ = Unit {0}

-- an edit is of the written form, and octets and sends are counted from 1
abbrev pub MayHappen : MachineEvent → Type 0
MayHappen (Changes e) = IsTrue (has_edit_form e)
MayHappen (DeliverOctets from to n) = 0 < n
MayHappen (Break from to n) = 0 < n
MayHappen _ = Unit {0}

-- ---- all of it, where M are the moments
pub record Facts (M : MachineState → Type 0) : Type 0 where
  pub says : (seats : List Seat) (w : MachineState) (a b : Name) (e : SessionEnds) → M w → StandsFor seats w
      → ends_of seats a b ≡ Some e → SaysOf seats w a b e
  pub none : (seats : List Seat) (w : MachineState) (a b : Name) → M w → StandsFor seats w
      → ends_of seats a b ≡ None → session_of w a b ≡ None
  pub turns : (seats : List Seat) (w : MachineState) (a b : Name) (e : SessionEnds) → M w → StandsFor seats w
      → ends_of seats a b ≡ Some e → ends_of seats b a ≡ Some (turned e)
  pub stood : (seats : List Seat) (w : MachineState) → M w → StandsFor seats w → AllByRecursion (IsStood seats w) w.sessions
  pub removes : (seats : List Seat) (w : MachineState) → M w → StandsFor seats w
      → StandsFor (map unbroken_seat seats) (unbroken w) × M (unbroken w)
  pub breaks : (seats : List Seat) (w : MachineState) (from to : Name) (e : SessionEnds) (n : ℕ) → M w → StandsFor seats w
      → ends_of seats from to ≡ Some e → 0 < n
      → StandsFor (with_break_at e.near n seats) (next message_size w (Break from to n))
  pub delivers_octets : (seats after : List Seat) (w : MachineState) (from to : Name) (e : SessionEnds) (n : ℕ) → M w
      → StandsFor seats w → ends_of seats to from ≡ Some e → 0 < n → DeliversOctets seats e n after
      → StandsFor after (deliver_octets message_size from to n w)
  pub delivers : (seats after : List Seat) (w : MachineState) (from to : Name) (e : SessionEnds) → M w → StandsFor seats w
      → ends_of seats to from ≡ Some e → Delivers seats e after → StandsFor after (deliver from to w)
  pub connects : (seats after : List Seat) (w : MachineState) (a b : Name) (e : SessionEnds) → M w → StandsFor seats w
      → events.is_earlier w.sessions a b ≡ true → ends_of seats a b ≡ Some e → Connects seats e after
      → StandsFor after (connect_if a b w)
  pub loses : (seats : List Seat) (w : MachineState) (a b : Name) (e : SessionEnds) → M w → StandsFor seats w
      → ends_of seats a b ≡ Some e → StandsFor (lost seats e) (next message_size w (Lose a b))
  pub restarts : (seats : List Seat) (w : MachineState) (name : Name) (k : ℕ) → M w → StandsFor seats w
      → seat_named seats name ≡ Some (suc k) → StandsFor (restarted seats (suc k)) (next message_size w (Restart name))
  pub edits : (seats after : List Seat) (w : MachineState) (e : Edit) → MayHappen (Changes e) → M w → StandsFor seats w
      → EditsUnless (edit_fault (checked w.setup) e) seats (checked w.setup) e after
      → StandsFor after (next message_size w (Changes e))
  pub nodes : (seats : List Seat) (w : MachineState) (name : Name) (k : ℕ) → M w → StandsFor seats w
      → seat_named seats name ≡ Some (suc k)
      → (is_node w name ≡ true) × (shown w name ≡ shown_by (seat seats (suc k)))
  pub others : (seats : List Seat) (w : MachineState) (name : Name) → M w → StandsFor seats w
      → IsNotAfter (seat_named seats name) → is_node w name ≡ false
  pub forwards : (seats : List Seat) (w : MachineState) → M w → StandsFor seats w → forwarders w ≡ forwarders_of seats
  pub next : (w : MachineState) (e : MachineEvent) → MayHappen e → M w → M (next message_size w e)

-- seats that stand for a moment
pub record At (M : MachineState → Type 0) (seats : List Seat) (w : MachineState) : Type 0 where
  pub moment : M w
  pub stands : StandsFor seats w
