-- What octets bring to one end of a session of items, record by record.
use Rattle.std.specs.Prelude.{◌≡◌, ◌+◌, ℕ, List, [], ◌∷◌, length, drop, Option, Some, None, Result, Ok, Err}
use Rattle.item_wire.specs.Frames.{frame_of}
use Rattle.item_wire.specs.Happenings.{SessionFields, after, answer}
use Rattle.item_wire.specs.Inputs.{came_by}
use Rattle.item_wire.specs.Reading.{item_in}
use Rattle.item_wire.specs.declared.event.ItemCause.{ItemCause}
use Rattle.item_wire.specs.declared.event.ItemCause.TheVariants as Cause
use Rattle.item_wire.specs.declared.event.ItemEvent.{ItemEvent}
use Rattle.item_wire.specs.declared.event.ItemEvent.TheVariants as Event
use Rattle.item_wire.specs.declared.event.ItemState.{ItemState}
use Rattle.item_wire.specs.declared.fault.ItemFault.{ItemFault}
use Rattle.item_wire.specs.declared.framing.TooLong.{TooLong}
use Rattle.item_wire.specs.declared.input.Came.{Came}
use Rattle.item_wire.specs.declared.input.Came.TheVariants.{BadRecord}
use Rattle.item_wire.specs.declared.item.Item.{Item}

-- ---- one record
abbrev pub came_with : SessionFields → Result Item ItemFault → Came
came_with s (Ok i) = came_by s.peer s.from i
came_with s (Err f) = BadRecord (Cause.Item f)

-- what octets bring first, and the octets after it: a record, or one that is too long. Octets of a record that is not
-- whole bring nothing
abbrev pub next_of : SessionFields → List ℕ → Result (Option (List ℕ)) TooLong → Option (Came × List ℕ)
next_of s octets (Err long) = Some (BadRecord (Cause.TooLong long.length), [])
next_of s octets (Ok None) = None
next_of s octets (Ok (Some json)) = Some (came_with s (item_in json), drop (4 + length json) octets)

abbrev pub next_in : SessionFields → List ℕ → Option (Came × List ℕ)
next_in s octets = next_of s octets (frame_of octets)

-- ---- all of them, in order, up to one that takes the session down
-- nothing is heard after that
abbrev pub GoesOn : ItemEvent → List Came → Type 0 → Type 0
GoesOn (Event.Down cause) more Then = more ≡ []
GoesOn _ more Then = Then

abbrev pub Hears : SessionFields → List ℕ → List Came → Type 0
Hears s octets [] = next_in s octets ≡ None
Hears s octets (came ∷ more) =
    (rest : List ℕ) × (next_in s octets ≡ Some (came, rest))
    × GoesOn (answer s came) more (Hears (after s came) rest more)

-- ---- what comes of it
pub record ItemHearing : Type 0 where
  -- the records that were handed out, in order
  pub records : List Item
  pub state : ItemState
  -- why the session went down, where it did
  pub cause : Option ItemCause

abbrev pub and_record : Item → ItemHearing → ItemHearing
and_record i h = record h { records = i ∷ h.records }

abbrev pub heard : SessionFields → List Came → ItemHearing
heard s [] = record { records = []; state = s.state; cause = None }
heard s (came ∷ more) =
    elim (answer s came) [
      | Event.Record i ↦ and_record i (heard (after s came) more)
      | Event.Down cause ↦ record { records = []; state = (after s came).state; cause = Some cause }
      | Event.Quiet ↦ heard (after s came) more
      | Event.SendHello ↦ heard (after s came) more
      | Event.Up ↦ heard (after s came) more
    ]

-- ---- one record at a time
-- what an event hands out, and why it ends the session
abbrev pub records_in : ItemEvent → List Item
records_in (Event.Record i) = i ∷ []
records_in _ = []

abbrev pub cause_in : ItemEvent → Option ItemCause
cause_in (Event.Down cause) = Some cause
cause_in _ = None

-- what octets brought first, once a session has heard it: the event, and how many octets it was. Then the session is s'
abbrev pub Brings : SessionFields → List ℕ → SessionFields → Option (ItemEvent × ℕ) → Type 0
Brings s octets s' None = (next_in s octets ≡ None) × (s' ≡ s)
Brings s octets s' (Some brought) =
    (came : Came) × (next_in s octets ≡ Some (came, drop brought.1 octets)) × (s' ≡ after s came)
    × (brought.0 ≡ answer s came)
