-- The table of a session of items: what each input does in each state.
use Rattle.std.specs.Prelude.{ℕ, List, [], ◌∷◌, ◌==◌, ◌/◌, ◌%◌, if◌then◌else◌}
use Rattle.ov_table.specs.Table.{cell_of}
use Rattle.item_wire.specs.declared.event.ItemState.{ItemState}
use Rattle.item_wire.specs.declared.event.ItemState.TheVariants.{Idle, Opened, Up}
use Rattle.item_wire.specs.declared.input.Came.{Came}
use Rattle.item_wire.specs.declared.input.Came.TheVariants as Comes
use Rattle.item_wire.specs.declared.table.Act.{Act}
use Rattle.item_wire.specs.declared.table.Act.TheVariants.{Nothing, SendHello, ComeUp, HandOut, GoDown}

-- Idle, Opened, Up; each by opened, a hello, a bad record, another record, closed: 16 times the next state and the act
abbrev pub session_table : List (List ℕ)
session_table =
    (17 ∷ 0 ∷ 0 ∷ 0 ∷ 0 ∷ [])
    ∷ (16 ∷ 34 ∷ 4 ∷ 4 ∷ 4 ∷ [])
    ∷ (32 ∷ 4 ∷ 4 ∷ 35 ∷ 4 ∷ [])
    ∷ []

abbrev pub row_of : ItemState → ℕ
row_of Idle = 0
row_of Opened = 1
row_of Up = 2

abbrev pub column_of : Came → ℕ
column_of Comes.Opened = 0
column_of Comes.Hello = 1
column_of (Comes.BadRecord cause) = 2
column_of (Comes.OtherRecord i) = 3
column_of Comes.Closed = 4

abbrev pub cell_at : ItemState → Came → ℕ
cell_at state came = cell_of session_table (row_of state) (column_of came)

-- the next state that a cell says
abbrev pub state_in : ℕ → ItemState
state_in cell = if cell / 16 == 0 then Idle else (if cell / 16 == 1 then Opened else Up)

-- the act that a cell says
abbrev pub act_in : ℕ → Act
act_in cell =
    if cell % 16 == 0 then Nothing
    else (if cell % 16 == 1 then SendHello
    else (if cell % 16 == 2 then ComeUp
    else (if cell % 16 == 3 then HandOut else GoDown)))
