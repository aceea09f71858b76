-- Octets that come in parts: what is left of a part until more octets come.
use Rattle.std.specs.Prelude.{◌≡◌, ℕ, List, [], ◌∷◌, ◌++◌, Option, Some, None}
use Rattle.item_wire.specs.Happenings.{SessionFields, after, answer}
use Rattle.item_wire.specs.declared.event.ItemCause.{ItemCause}
use Rattle.item_wire.specs.declared.event.ItemEvent.{ItemEvent}
use Rattle.item_wire.specs.declared.event.ItemEvent.TheVariants as Event
use Rattle.item_wire.specs.declared.input.Came.{Came}
use Rattle.node_core.specs.Hearing.{next_in, ItemHearing, heard}

-- ---- what is left of octets
-- nothing is heard once the session went down, and nothing is left then
abbrev pub GoesOnLeaving : ItemEvent → List Came → List ℕ → Type 0 → Type 0
GoesOnLeaving (Event.Down cause) more left Then = (more ≡ []) × (left ≡ [])
GoesOnLeaving _ more left Then = Then

-- the octets bring these inputs, in order, and leave these octets: those of a record that is not whole
abbrev pub Leaves : SessionFields → List ℕ → List Came → List ℕ → Type 0
Leaves s octets [] left = (next_in s octets ≡ None) × (left ≡ octets)
Leaves s octets (came ∷ more) left =
    (rest : List ℕ)
    × (next_in s octets ≡ Some (came, rest))
    × GoesOnLeaving (answer s came) more left (Leaves (after s came) rest more left)

-- ---- one part after another
-- the session once these inputs came
abbrev pub session_after : SessionFields → List Came → SessionFields
session_after s inputs = record s { state = (heard s inputs).state }

-- what is heard, and then more
abbrev pub and_then : ItemHearing → ItemHearing → ItemHearing
and_then first more = record more { records = first.records ++ more.records }

-- a part that takes the session down is the last that is heard
abbrev pub WhileUp : Option ItemCause → List Came → List ℕ → Type 0 → Type 0
WhileUp (Some cause) more left Then = (more ≡ []) × (left ≡ [])
WhileUp None more left Then = Then

-- the parts bring these inputs, each behind what was left of those before it, and leave these octets in the end
abbrev pub PartsLeave : SessionFields → List ℕ → List (List ℕ) → List Came → List ℕ → Type 0
PartsLeave s kept [] inputs left = (inputs ≡ []) × (left ≡ kept)
PartsLeave s kept (part ∷ parts) inputs left =
    (first : List Came) × (more : List Came) × (between : List ℕ)
    × Leaves s (kept ++ part) first between × (inputs ≡ first ++ more)
    × WhileUp (heard s first).cause more left (PartsLeave (session_after s first) between parts more left)
