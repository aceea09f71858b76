-- What each state does with each input, in words.
use Rattle.item_wire.specs.declared.event.ItemState.{ItemState}
use Rattle.item_wire.specs.declared.event.ItemState.TheVariants as Is
use Rattle.item_wire.specs.declared.event.ItemCause.TheVariants.{Order, Ended}
use Rattle.item_wire.specs.declared.event.ItemEvent.{ItemEvent}
use Rattle.item_wire.specs.declared.event.ItemEvent.TheVariants.{Quiet, SendHello, Up, Record, Down}
use Rattle.item_wire.specs.declared.input.Came.{Came}
use Rattle.item_wire.specs.declared.input.Came.TheVariants as Comes

-- the next state, and what happens
abbrev pub Step : Type 0
Step = ItemState × ItemEvent

-- a session that is not open is opened by its connection, and passes over all else
abbrev pub in_idle : Came → Step
in_idle Comes.Opened = (Is.Opened, SendHello)
in_idle _ = (Is.Idle, Quiet)

-- a session that was opened waits for the hello of the other end; a record before it is out of order
abbrev pub in_opened : Came → Step
in_opened Comes.Opened = (Is.Opened, Quiet)
in_opened Comes.Hello = (Is.Up, Up)
in_opened (Comes.BadRecord cause) = (Is.Idle, Down cause)
in_opened (Comes.OtherRecord i) = (Is.Idle, Down Order)
in_opened Comes.Closed = (Is.Idle, Down Ended)

-- a session that is up hands out the records of its direction; a second hello is out of order
abbrev pub in_up : Came → Step
in_up Comes.Opened = (Is.Up, Quiet)
in_up Comes.Hello = (Is.Idle, Down Order)
in_up (Comes.BadRecord cause) = (Is.Idle, Down cause)
in_up (Comes.OtherRecord i) = (Is.Up, Record i)
in_up Comes.Closed = (Is.Idle, Down Ended)

abbrev pub step_of : ItemState → Came → Step
step_of Is.Idle = in_idle
step_of Is.Opened = in_opened
step_of Is.Up = in_up
