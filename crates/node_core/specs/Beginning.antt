-- What an input makes of an end of a session of items.
use Rattle.std.specs.Prelude.{◌≡◌, ℕ, List, [], ◌∷◌, ◌++◌, Option, Some, None}
use Rattle.std.specs.List.{filter_map}
use Rattle.ov_link.specs.declared.step.Input.{Input}
use Rattle.ov_link.specs.declared.step.Input.TheVariants as input
use Rattle.ov_sync.specs.Keyed.{after}
use Rattle.item_wire.specs.Happenings.{SessionFields}
use Rattle.item_wire.specs.Records.{spelling}
use Rattle.item_wire.specs.declared.event.ItemCause.{ItemCause}
use Rattle.item_wire.specs.declared.event.ItemState.{ItemState}
use Rattle.item_wire.specs.declared.event.ItemState.TheVariants as State
use Rattle.item_wire.specs.declared.input.Came.{Came}
use Rattle.item_wire.specs.declared.item.Item.TheVariants.{Hello}
use Rattle.node_model.specs.Step.{Beginning, Phase, Idle, Opened, Up, Post}
use Rattle.node_core.specs.Told.{change_of}
use Rattle.node_core.specs.Hearing.{Hears, ItemHearing, heard}
use Rattle.node_core.specs.Left.{Leaves}

abbrev pub phase_of : ItemState → Phase
phase_of State.Idle = Idle
phase_of State.Opened = Opened
phase_of State.Up = Up

abbrev pub state_at : Phase → ItemState
state_at Idle = State.Idle
state_at Up = State.Up
state_at _ = State.Opened

-- an end after what was heard: the records that were handed out are applied in order, and nothing is left where the
-- session went down
abbrev pub left_by : Post → ItemHearing → Option ItemCause → Option Post
left_by p h None = Some (record p { phase = phase_of h.state; held = after p.held (filter_map change_of h.records) })
left_by p h (Some cause) = None

-- the node of this name opens the end and greets, hears octets on it, or closes it. Nothing is replied to octets
abbrev pub Begins : List ℕ → SessionFields → Post → Input → Beginning → Option ItemCause → Type 0
Begins me s p (input.Opened session) given cause =
    (given ≡ record { replies = spelling (Hello me) ∷ []; after = Some (record p { phase = Opened }) }) × (cause ≡ None)
Begins me s p (input.Bytes session bytes) given cause =
    (inputs : List Came) × Hears s bytes.now inputs
    × (given ≡ record { replies = []; after = left_by p (heard s inputs) (heard s inputs).cause })
    × (cause ≡ (heard s inputs).cause)
Begins me s p (input.Closed session) given cause = (given ≡ record { replies = []; after = None }) × (cause ≡ None)

-- what an input makes of an end where these octets were kept of the session before: they are heard again before those
-- that came. And what is kept of it then
abbrev pub BeginsKeeping : List ℕ → SessionFields → Post → List ℕ → Input → Beginning → Option ItemCause → List ℕ → Type 0
BeginsKeeping me s p kept (input.Bytes session bytes) given cause left =
    (inputs : List Came) × Leaves s (kept ++ bytes.now) inputs left
    × (given ≡ record { replies = []; after = left_by p (heard s inputs) (heard s inputs).cause })
    × (cause ≡ (heard s inputs).cause)
BeginsKeeping me s p kept event given cause left = Begins me s p event given cause × (left ≡ [])
