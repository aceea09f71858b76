-- What an input makes of a session of items.
use Rattle.std.specs.Prelude.{ℕ, List}
use Rattle.item_wire.specs.declared.event.ItemState.{ItemState}
use Rattle.item_wire.specs.declared.event.ItemState.TheVariants.{Idle}
use Rattle.item_wire.specs.declared.event.ItemFrom.{ItemFrom}
use Rattle.item_wire.specs.declared.event.ItemCause.{ItemCause}
use Rattle.item_wire.specs.declared.event.ItemCause.TheVariants.{Order, Ended}
use Rattle.item_wire.specs.declared.event.ItemEvent.{ItemEvent}
use Rattle.item_wire.specs.declared.event.ItemEvent.TheVariants.{Quiet, SendHello, Up, Record, Down}
use Rattle.item_wire.specs.declared.input.Came.{Came}
use Rattle.item_wire.specs.declared.input.Came.TheVariants as Comes
use Rattle.item_wire.specs.declared.table.Act.{Act}
use Rattle.item_wire.specs.declared.table.Act.TheVariants as Does
use Rattle.item_wire.specs.Table.{cell_at, state_in, act_in}

-- why a session goes down at an input: the fault that came, a record out of order, the end of the connection
abbrev pub cause_of : Came → ItemCause
cause_of (Comes.BadRecord cause) = cause
cause_of Comes.Closed = Ended
cause_of _ = Order

abbrev pub handed_out : Came → ItemEvent
handed_out (Comes.OtherRecord i) = Record i
handed_out _ = Quiet

-- what an act makes of an input
abbrev pub event_of : Act → Came → ItemEvent
event_of Does.Nothing came = Quiet
event_of Does.SendHello came = SendHello
event_of Does.ComeUp came = Up
event_of Does.HandOut came = handed_out came
event_of Does.GoDown came = Down (cause_of came)

-- a session: the name of the other end, what that may send, the state
pub record SessionFields : Type 0 where
  pub peer : List ℕ
  pub from : ItemFrom
  pub state : ItemState

abbrev pub idle_session : List ℕ → ItemFrom → SessionFields
idle_session peer from = record { peer = peer; from = from; state = Idle }

-- the state and the event that the cell of a state and an input says
abbrev pub next_state : ItemState → Came → ItemState
next_state state came = state_in (cell_at state came)

abbrev pub next_event : ItemState → Came → ItemEvent
next_event state came = event_of (act_in (cell_at state came)) came

-- a session after an input, and what the input makes of it
abbrev pub after : SessionFields → Came → SessionFields
after s came = record s { state = next_state s.state came }

abbrev pub answer : SessionFields → Came → ItemEvent
answer s came = next_event s.state came
