-- The steps of a network: sends, deliveries, rounds, connections, and settling.
use Rattle.std.specs.Prelude.{ℕ, zero, suc, ◌+◌, List, [], ◌∷◌, map, Bool, true, false, not, ◌&&◌, ◌==◌}
use Rattle.std.specs.Prelude.{if◌then◌else◌}
use mathlib.Core.Bool.{beq}
use Rattle.std.specs.declared.option.Option.{Option}
use Rattle.std.specs.declared.option.Option.TheVariants.{Some, None}
use Rattle.std.specs.Option.{unwrap_or, option_map}
use Rattle.std.specs.List.{flat_map, list_all}
use Rattle.machine_model.specs.Setup.{Name, longest}
use Rattle.machine_model.specs.Session.{Session, Message, turned, is_up, opened, arrived, octets_arrived, passed}
use Rattle.machine_model.specs.Session.{waiting}
use Rattle.machine_model.specs.Network.{MachineState, is_at, view, views_of, wanted}

-- ---- steps of nodes
-- f at the named node's end of each session that it has
abbrev pub at_node : Name → (Session → Session) → Session → Session
at_node name f s = if is_at name s.near then f s else if is_at name s.far then turned (f (turned s)) else s

abbrev pub joins : Name → Name → Session → Bool
joins a b s = is_at a s.near && is_at b s.far

-- the session of two nodes, changed at the first one's end
abbrev pub with_session : Name → Name → (Session → Session) → List Session → List Session
with_session a b f [] = []
with_session a b f (s ∷ sessions) =
    if joins a b s then f s ∷ sessions
    else if joins b a s then turned (f (turned s)) ∷ sessions
    else s ∷ with_session a b f sessions

abbrev pub change_session : Name → Name → (Session → Session) → MachineState → MachineState
change_session a b f w = record { setup = w.setup; sessions = with_session a b f w.sessions }

abbrev pub change_node : Name → (Session → Session) → MachineState → MachineState
change_node name f w = record { setup = w.setup; sessions = map (at_node name f) w.sessions }

-- on each of its sessions that may send, the node sends what it wants now
abbrev pub pass : Name → MachineState → MachineState
pass name w = change_node name (λ s. passed (wanted w.setup (views_of name w.sessions) (view s)) s) w

-- the session of two nodes, as the first one sees it
abbrev pub session_in : List Session → Name → Name → Option Session
session_in [] a b = None
session_in (s ∷ sessions) a b =
    if joins a b s then Some s else if joins b a s then Some (turned s) else session_in sessions a b

abbrev pub session_of : MachineState → Name → Name → Option Session
session_of w a b = session_in w.sessions a b

-- how many messages and notices wait to be delivered from one node to another
abbrev pub in_flight : MachineState → Name → Name → ℕ
in_flight w from to = unwrap_or (option_map waiting (session_of w to from)) 0

abbrev pub repeat : ℕ → (MachineState → MachineState) → MachineState → MachineState
repeat zero f w = w
repeat (suc n) f w = repeat n f (f w)

-- ---- deliveries
-- one message or notice is taken, and the node that took it makes its pass
abbrev pub deliver : Name → Name → MachineState → MachineState
deliver from to w = if in_flight w from to == 0 then w else pass to (change_session to from arrived w)

-- some octets are taken, and the node makes one pass
module _ (size : Name → Message → ℕ) where
  abbrev pub deliver_octets : Name → Name → ℕ → MachineState → MachineState
  deliver_octets from to n w =
      if in_flight w from to == 0 then w else pass to (change_session to from (octets_arrived size n) w)

-- ---- a round
-- what waits towards the near end of a session as a round begins
pub record Due : Type 0 where
  pub from : Name
  pub to : Name
  pub is_notice : Bool
  pub count : ℕ

abbrev pub due_at : Session → Due
due_at s = record { from = s.far.name; to = s.near.name; is_notice = s.near.notice; count = waiting s }

-- each session from its earlier node to its later one, and then back
abbrev pub dues : MachineState → List Due
dues w = flat_map (λ s. due_at (turned s) ∷ due_at s ∷ []) w.sessions

abbrev pub notice_stands : MachineState → Due → Bool
notice_stands w d = unwrap_or (option_map (λ (s : Session). s.near.notice) (session_of w d.to d.from)) false

-- a message or notice of those that waited is delivered, where it is still there
abbrev pub deliver_due : Due → MachineState → MachineState
deliver_due d w = if beq (notice_stands w d) d.is_notice then deliver d.from d.to w else w

abbrev pub deliver_all : List Due → MachineState → MachineState
deliver_all [] w = w
deliver_all (d ∷ ds) w = deliver_all ds (repeat d.count (deliver_due d) w)

unfoldable pub round : MachineState → MachineState
round w = deliver_all (dues w) w

-- ---- connecting
abbrev pub is_broken : MachineState → Name → Name → Bool
is_broken w a b = unwrap_or (option_map (λ (s : Session). s.is_down) (session_of w a b)) true

-- f at the far end
abbrev pub around : (Session → Session) → Session → Session
around f s = turned (f (turned s))

-- the second node opens, where the session is not down again
abbrev pub open_second : Name → Name → MachineState → MachineState
open_second a b w = if is_broken w a b then w else pass b (change_session a b (around opened) w)

-- the first node opens, and then the second
abbrev pub connect : Name → Name → MachineState → MachineState
connect a b w = open_second a b (pass a (change_session a b opened w))

-- a session may be connected where it is down, and no notice is pending at an end
abbrev pub may_connect : Session → Bool
may_connect s = s.is_down && (not s.near.notice && not s.far.notice)

abbrev pub connect_found : Option Session → Name → Name → MachineState → MachineState
connect_found None a b w = w
connect_found (Some s) a b w = if may_connect s then connect a b w else w

abbrev pub connect_if : Name → Name → MachineState → MachineState
connect_if a b w = connect_found (session_of w a b) a b w

-- ---- settling
abbrev pub is_rested : Session → Bool
is_rested s = is_up s.near && is_up s.far && (waiting s == 0) && (waiting (turned s) == 0)

-- every session is up at both ends, and no message and no notice is in flight
abbrev pub is_settled : MachineState → Bool
is_settled w = list_all is_rested w.sessions

abbrev pub is_quiet : MachineState → Bool
is_quiet w = list_all (λ s. (waiting s == 0) && (waiting (turned s) == 0)) w.sessions

abbrev pub without_breaks : Session → Session
without_breaks s = record {
  is_down = s.is_down;
  near = record s.near { breaks = [] };
  far = record s.far { breaks = [] };
}

abbrev pub connect_all : List Session → MachineState → MachineState
connect_all [] w = w
connect_all (s ∷ sessions) w = connect_all sessions (connect_if s.near.name s.far.name w)

-- rounds until nothing is in flight, at most n more, with their number
abbrev pub rounds_from : ℕ → ℕ → MachineState → ℕ × MachineState
rounds_from zero done w = (done, w)
rounds_from (suc n) done w = if is_quiet w then (done, w) else rounds_from n (done + 1) (round w)

abbrev pub reconnected : MachineState → MachineState
reconnected w = connect_all w.sessions w

-- how settling begins: breaks that were not met are removed, one round is done, and every session that is down is
-- connected, in the order of a round
abbrev pub resumed : MachineState → MachineState
resumed w = reconnected (round (record { setup = w.setup; sessions = map without_breaks w.sessions }))

-- to settle: the sessions that may be are connected, and rounds are done until nothing is in flight, at most 6 more in
-- all than the longest chain in effect has services
unfoldable pub settle : MachineState → ℕ × MachineState
settle w = rounds_from (longest w.setup + 5) 1 (resumed w)
