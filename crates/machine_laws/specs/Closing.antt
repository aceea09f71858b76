-- Which events take a session down by themselves, and what no event else does.
use Rattle.std.specs.Prelude.{◌≡◌, ◌⊎◌, List, ◌++◌, map, true, false, if◌then◌else◌}
use Rattle.std.specs.declared.option.Option.{Option}
use Rattle.std.specs.declared.option.Option.TheVariants.{Some, None}
use Rattle.std.specs.List.{list_any}
use Rattle.ov_types.specs.First.{same_name}
use Rattle.config_types.specs.declared.edit.Edit.{Edit}
use Rattle.schedule_script.specs.ConfigCheck.Edits.{edit_fault}
use Rattle.schedule_script.specs.ConfigCheck.Finding.{node_named}
use Rattle.node_laws.specs.NodeModel.Maps.{Change}
use Rattle.machine_model.specs.Setup.{Name, Move, checked, listed_by, moves}
use Rattle.machine_model.specs.Session.{Agent, Carries, Controller, SessionEnd, Session}
use Rattle.machine_model.specs.Network.{MachineState, between}
use Rattle.machine_model.specs.Steps.{session_of}
use Rattle.machine_model.specs.Rounds.{has_no_break}
use Rattle.machine_model.specs.Events.{MachineEvent, Edits, Lose, Restart}

-- two pairs are of the same two nodes, in one order or the other
abbrev pub AreSamePair : Name → Name → Name → Name → Type 0
AreSamePair a b c d = ((c ≡ a) × (d ≡ b)) ⊎ ((c ≡ b) × (d ≡ a))

-- the edit is accepted, and by it the compute node of that name comes, goes, or lists other control nodes than before
pub record MovesNode (w : MachineState) (d : Edit) (name : Name) : Type 0 where
  pub accepted : edit_fault (checked w.setup) d ≡ None
  pub move : Move
  pub moved : moves d w.setup.topology ≡ Some move
  pub named : move.name ≡ name

-- a loss of the session between two nodes, a restart of one of them, or an edit by which one of them moves
abbrev pub TakesDown : MachineState → Name → Name → MachineEvent → Type 0
TakesDown w a b (Lose c d) = AreSamePair a b c d
TakesDown w a b (Restart n) = (n ≡ a) ⊎ (n ≡ b)
TakesDown w a b (Edits d) = MovesNode w d a ⊎ MovesNode w d b
TakesDown w a b e = ⊥

-- the two nodes have a session that is not down, and on which no break is pending
pub record IsUnbroken (w : MachineState) (a b : Name) : Type 0 where
  pub session : Session
  pub found : session_of w a b ≡ Some session
  pub whole : session.is_down ≡ false
  pub unbroken : has_no_break session ≡ true

-- the two nodes have a session that is not down
pub record IsWhole (w : MachineState) (a b : Name) : Type 0 where
  pub session : Session
  pub found : session_of w a b ≡ Some session
  pub whole : session.is_down ≡ false

-- ---- edits
-- an end stands as it stood, but for changes that its node tells more
pub record EndStays (e f : SessionEnd) : Type 0 where
  pub name : f.name ≡ e.name
  pub role : f.role ≡ e.role
  pub phase : f.phase ≡ e.phase
  pub notice : f.notice ≡ e.notice
  pub held : f.held ≡ e.held
  pub taken : f.taken ≡ e.taken
  pub breaks : f.breaks ≡ e.breaks
  pub told : List Change
  pub flight : f.flight ≡ e.flight ++ map Carries told

pub record SessionStays (s t : Session) : Type 0 where
  pub down : t.is_down ≡ s.is_down
  pub near : EndStays s.near t.near
  pub far : EndStays s.far t.far

-- a session stays, where no break is pending on it, and none comes where there was none
abbrev pub StaysOrNone : Option Session → Option Session → Type 0
StaysOrNone (Some s) (Some t) = has_no_break s ≡ true → SessionStays s t
StaysOrNone None None = Unit {0}
StaysOrNone _ _ = ⊥

-- the session of a control node with a compute node of this name, of which nothing is there: one where the compute node
-- lists it, and none else
abbrev pub anew : MachineState → Name → Name → Option Session
anew w control name =
    if list_any (same_name control) (listed_by (node_named w.setup.topology name))
    then Some (between control Controller name Agent) else None
