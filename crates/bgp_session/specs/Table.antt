-- The table of a session: what each input does in each state.
use Rattle.std.specs.Prelude.{ℕ, List, [], ◌∷◌, ◌==◌, ◌/◌, ◌%◌, if◌then◌else◌}
use Rattle.ov_table.specs.Table.{cell_of}
use Rattle.bgp_session.specs.declared.event.State.{State}
use Rattle.bgp_session.specs.declared.event.State.TheVariants.{Idle, OpenSent, OpenConfirm, Established}
use Rattle.bgp_session.specs.declared.table.Act.{Act}
use Rattle.bgp_session.specs.declared.table.Act.TheVariants.{Nothing, SendOpen, SendKeepalive, ComeUp, HandOut}
use Rattle.bgp_session.specs.declared.table.Act.TheVariants.{AnswerFault, AnswerOrder, GoDown}
use Rattle.bgp_session.specs.Inputs.{Came, Opened, RightOpen, WrongOpen, KeepaliveCame, RightUpdate, WrongUpdate}
use Rattle.bgp_session.specs.Inputs.{NotificationCame, BadFrame, Closed}

-- Idle, OpenSent, OpenConfirm, Established; each by opened, a right OPEN, a wrong OPEN, a KEEPALIVE, a right UPDATE, a
-- wrong UPDATE, a NOTIFICATION, a bad frame, closed: 16 times the next state and the act
abbrev pub session_table : List (List ℕ)
session_table =
    (17 ∷ 0 ∷ 0 ∷ 0 ∷ 0 ∷ 0 ∷ 0 ∷ 0 ∷ 0 ∷ [])
    ∷ (16 ∷ 34 ∷ 5 ∷ 6 ∷ 6 ∷ 6 ∷ 7 ∷ 5 ∷ 7 ∷ [])
    ∷ (32 ∷ 6 ∷ 5 ∷ 51 ∷ 6 ∷ 6 ∷ 7 ∷ 5 ∷ 7 ∷ [])
    ∷ (48 ∷ 6 ∷ 6 ∷ 48 ∷ 52 ∷ 5 ∷ 7 ∷ 5 ∷ 7 ∷ [])
    ∷ []

abbrev pub row_of : State → ℕ
row_of Idle = 0
row_of OpenSent = 1
row_of OpenConfirm = 2
row_of Established = 3

abbrev pub column_of : Came → ℕ
column_of Opened = 0
column_of (RightOpen wide) = 1
column_of (WrongOpen f) = 2
column_of KeepaliveCame = 3
column_of (RightUpdate deltas) = 4
column_of (WrongUpdate f) = 5
column_of (NotificationCame code subcode) = 6
column_of (BadFrame f) = 7
column_of Closed = 8

abbrev pub cell_at : State → Came → ℕ
cell_at state came = cell_of session_table (row_of state) (column_of came)

-- the next state that a cell says
abbrev pub state_in : ℕ → State
state_in cell =
    if cell / 16 == 0 then Idle
    else (if cell / 16 == 1 then OpenSent
    else (if cell / 16 == 2 then OpenConfirm else Established))

-- the act that a cell says
abbrev pub act_in : ℕ → Act
act_in cell =
    if cell % 16 == 0 then Nothing
    else (if cell % 16 == 1 then SendOpen
    else (if cell % 16 == 2 then SendKeepalive
    else (if cell % 16 == 3 then ComeUp
    else (if cell % 16 == 4 then HandOut
    else (if cell % 16 == 5 then AnswerFault
    else (if cell % 16 == 6 then AnswerOrder else GoDown))))))
