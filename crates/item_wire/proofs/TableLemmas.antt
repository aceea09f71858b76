-- Each cell of the table, and its words.
use Rattle.std.proofs.Common.{◌≡◌, refl}
use Rattle.item_wire.specs.declared.event.ItemState.{ItemState}
use Rattle.item_wire.specs.declared.event.ItemState.TheVariants.{Idle, Opened, Up}
use Rattle.item_wire.specs.declared.input.Came.{Came}
use Rattle.item_wire.specs.declared.input.Came.TheVariants as Comes
use Rattle.item_wire.specs.Happenings.{next_state, next_event}
use Rattle.item_wire.specs.Words.{step_of}

pub words_of : (state : ItemState) (came : Came) → (next_state state came, next_event state came) ≡ step_of state came
words_of Idle Comes.Opened = refl
words_of Idle Comes.Hello = refl
words_of Idle (Comes.BadRecord cause) = refl
words_of Idle (Comes.OtherRecord i) = refl
words_of Idle Comes.Closed = refl
words_of Opened Comes.Opened = refl
words_of Opened Comes.Hello = refl
words_of Opened (Comes.BadRecord cause) = refl
words_of Opened (Comes.OtherRecord i) = refl
words_of Opened Comes.Closed = refl
words_of Up Comes.Opened = refl
words_of Up Comes.Hello = refl
words_of Up (Comes.BadRecord cause) = refl
words_of Up (Comes.OtherRecord i) = refl
words_of Up Comes.Closed = refl
