-- One session between two nodes, and all that can happen to it. Each function sees the session from the end that acts,
-- which is its `near` end.
use Rattle.std.specs.Prelude.{ℕ, ◌+◌, ◌-◌, List, [], ◌∷◌, ◌++◌, map, length, Bool, true, false, not}
use Rattle.std.specs.Prelude.{if◌then◌else◌, nat_lt}
use Rattle.std.specs.FinMap.{empty}
pub use Rattle.ov_link.specs.Breaks.{counted}
use Rattle.ov_link.specs.Breaks.{is_break}
use Rattle.ov_sync.specs.Keyed.{changed}
use Rattle.transform_model.specs.NodeModel.Maps.{Map, Change, difference}
pub use Rattle.transform_model.specs.NodeModel.Step.{is_idle, is_up as is_up_phase}
use Rattle.transform_model.specs.NodeModel.Step.{Phase, Idle, Opened, Confirmed, Up}
use Rattle.machine_model.specs.Setup.{Name}

pub data Role : Type 0 where
  Configuration : Role
  Controller : Role
  Agent : Role

pub data Message : Type 0 where
  Open : Message
  Keepalive : Message
  Hello : Message
  -- one change of what the sender told
  Carries : Change → Message

-- what one node has of a session, with what it sent and the other has not taken
pub record SessionEnd : Type 0 where
  pub name : Name
  pub role : Role
  pub phase : Phase
  -- whether a notice of loss waits here
  pub notice : Bool
  pub sent : Map
  pub held : Map
  -- the messages that left this end and are in flight, the octets of the first that were taken, and the coming sends
  -- that fail, counted from 1
  pub flight : List Message
  pub taken : ℕ
  pub breaks : List ℕ

pub record Session : Type 0 where
  pub is_down : Bool
  pub near : SessionEnd
  pub far : SessionEnd

-- as the other end sees it
abbrev pub turned : Session → Session
turned s = record { is_down = s.is_down; near = s.far; far = s.near }

-- from its opening until it takes its notice, is closed by its node or its node restarts
abbrev pub is_live : SessionEnd → Bool
is_live e = not (is_idle e.phase)

abbrev pub is_up : SessionEnd → Bool
is_up e = is_up_phase e.phase

-- between two control nodes
abbrev pub are_peers : Role → Role → Bool
are_peers Controller Controller = true
are_peers _ _ = false

abbrev pub is_peering : Session → Bool
is_peering s = are_peers s.near.role s.far.role

-- changes are sent between control nodes once the end is up, and else from its opening on
abbrev pub may_send_at : Bool → Phase → Bool
may_send_at peering phase = if peering then is_up_phase phase else not (is_idle phase)

abbrev pub may_send : Session → Bool
may_send s = may_send_at (is_peering s) s.near.phase

-- ---- an end that closes, and one that is told of a loss
abbrev pub closed : SessionEnd → SessionEnd
closed e = record e { phase = Idle; notice = false; sent = empty; held = empty; flight = []; taken = 0 }

-- a notice stands only at a live end
abbrev pub noticed : SessionEnd → SessionEnd
noticed e = record e { notice = is_live e; flight = []; taken = 0 }

-- the near end closes by itself
abbrev pub shut : Session → Session
shut s = record { is_down = true; near = closed s.near; far = noticed s.far }

-- the connection is lost
abbrev pub lost : Session → Session
lost s = record { is_down = true; near = noticed s.near; far = noticed s.far }

-- ---- sends
abbrev pub meets_break : List ℕ → Bool
meets_break breaks = is_break breaks 1

abbrev pub with_breaks : List ℕ → Session → Session
with_breaks breaks s = record s { near = record s.near { breaks = breaks } }

-- a message that leaves: on a session that is down it is discarded
abbrev pub left : Message → Session → Session
left m s = if s.is_down then s else record s { near = record s.near { flight = s.near.flight ++ m ∷ [] } }

-- messages are sent in turn, up to the first that meets a break. That one closes the end
unfoldable pub told : List Message → Session → Session
told [] s = s
told (m ∷ ms) s =
    if meets_break s.near.breaks then shut (with_breaks (counted s.near.breaks) s)
    else told ms (left m (with_breaks (counted s.near.breaks) s))

-- the near end sends what is wanted and was not sent
unfoldable pub passed : Map → Session → Session
passed wanted s =
    if may_send s
    then told (map Carries (difference s.near.sent wanted)) (record s { near = record s.near { sent = wanted } })
    else s

-- ---- opening
abbrev pub greeting : Session → Message
greeting s = if is_peering s then Open else Hello

unfoldable pub opened : Session → Session
opened s = told (greeting s ∷ []) (record { is_down = false; near = record s.near { phase = Opened }; far = s.far })

-- ---- taking a message
abbrev pub with_phase : Phase → Session → Session
with_phase phase s = record s { near = record s.near { phase = phase } }

abbrev pub held_changed : Change → Session → Session
held_changed d s = record s { near = record s.near { held = changed s.near.held d } }

-- between control nodes: the OPEN is answered with a KEEPALIVE, and the other end's KEEPALIVE leads up
abbrev pub peer_took : Phase → Message → Session → Session
peer_took Idle m s = s
peer_took Opened Open s = told (Keepalive ∷ []) (with_phase Confirmed s)
peer_took Confirmed Keepalive s = with_phase Up s
peer_took Up Keepalive s = s
peer_took Up (Carries d) s = held_changed d s
peer_took _ _ s = shut s

-- on the feed, and between a control node and an agent: the hello leads up
abbrev pub item_took : Phase → Message → Session → Session
item_took Idle m s = s
item_took Opened Hello s = with_phase Up s
item_took Up (Carries d) s = held_changed d s
item_took _ _ s = shut s

abbrev pub took : Message → Session → Session
took m s = if is_peering s then peer_took s.near.phase m s else item_took s.near.phase m s

-- what is in flight towards the near end: a notice counts as one
abbrev pub waiting : Session → ℕ
waiting s = if s.near.notice then 1 else length s.far.flight

-- the messages after the first one, of which no octet is taken
abbrev pub without_first : List Message → Session → Session
without_first ms s = record s { far = record s.far { flight = ms; taken = 0 } }

abbrev pub took_first : List Message → Session → Session
took_first [] s = s
took_first (m ∷ ms) s = took m (without_first ms s)

-- a notice closes the end. Else the first message is taken
unfoldable pub arrived : Session → Session
arrived s = if s.near.notice then record s { near = closed s.near } else took_first s.far.flight s

-- a message from a node of that name has `size` octets
module _ (size : Name → Message → ℕ) where
  abbrev pub took_octets : ℕ → List Message → Session → Session
  took_octets n [] s = s
  took_octets n (m ∷ ms) s =
      if s.is_down then s
      else if nat_lt n (size s.far.name m - s.far.taken)
      then record s { far = record s.far { taken = s.far.taken + n } }
      else took_octets (n - (size s.far.name m - s.far.taken)) ms (took m (without_first ms s))

  -- a message has its effect when its last octet is taken
  unfoldable pub octets_arrived : ℕ → Session → Session
  octets_arrived n s = if s.near.notice then record s { near = closed s.near } else took_octets n s.far.flight s
