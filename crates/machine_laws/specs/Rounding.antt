-- What a settled moment is, which events deliver, what is due as a round begins, which end a connection opens first, and
-- which numbers sessions have at the start, in words that their definitions do not use.
use Rattle.std.specs.Prelude.{◌≡◌, ◌⊎◌, ◌<◌, ℕ, List, [], ◌∷◌, ◌||◌, length, true, false, Option, Some, find, slice_get}
use Rattle.ov_types.specs.declared.rows.NodeId.{NodeId}
use Rattle.node_laws.specs.NodeModel.Step.{Idle, Opened, Up}
use Rattle.machine_model.specs.Setup.{Move, Name, Setup}
use Rattle.machine_model.specs.Session.{Session, SessionEnd}
use Rattle.machine_model.specs.Network.{MachineState, brought, replaced}
use Rattle.machine_model.specs.Steps.{Due, joins}
use Rattle.machine_model.specs.Events.{MachineEvent, Deliver, DeliverOctets, Round}

-- ---- settled moments
-- an end is up, no notice waits there, and nothing that left it is in flight
pub record IsAtEase (e : SessionEnd) : Type 0 where
  pub up : e.phase ≡ Up
  pub notice : e.notice ≡ false
  pub flight : e.flight ≡ []

-- both ends are. How many breaks are pending is not asked
pub record AreAtEase (s : Session) : Type 0 where
  pub near : IsAtEase s.near
  pub far : IsAtEase s.far

-- ---- deliveries
-- a number of messages, a number of octets, or a round
pub record DeliversMessages (e : MachineEvent) : Type 0 where
  pub from : Name
  pub to : Name
  pub messages : ℕ
  pub is : e ≡ Deliver from to messages

pub record DeliversSomeOctets (e : MachineEvent) : Type 0 where
  pub from : Name
  pub to : Name
  pub octets : ℕ
  pub is : e ≡ DeliverOctets from to octets

abbrev pub Delivers : MachineEvent → Type 0
Delivers e = DeliversMessages e ⊎ (DeliversSomeOctets e ⊎ (e ≡ Round))

-- ---- what is due
-- from one end of a session to the other: the notice that waits there, or else each message that left the one end
pub record IsDueBetween (e f : SessionEnd) (d : Due) : Type 0 where
  pub from : d.from ≡ e.name
  pub to : d.to ≡ f.name
  pub is_notice : d.is_notice ≡ f.notice
  pub one : f.notice ≡ true → d.count ≡ 1
  pub all : f.notice ≡ false → d.count ≡ length e.flight

-- what is due of each session in turn, from its earlier node to its later one and then back, and nothing else
abbrev pub AreDue : List Session → List Due → Type 0
AreDue [] [] = Unit {0}
AreDue (s ∷ ss) (d ∷ b ∷ ds) = IsDueBetween s.near s.far d × IsDueBetween s.far s.near b × AreDue ss ds
AreDue _ _ = ⊥

-- ---- connections
-- the session of two nodes, of which the first is the earlier in the order of a round
pub record IsFromTo (w : MachineState) (a b : Name) (s : Session) : Type 0 where
  pub found : find (λ t. joins a b t || joins b a t) w.sessions ≡ Some s
  pub earlier : s.near.name ≡ a
  pub later : s.far.name ≡ b

-- the session is down; the near end was opened, and a notice waits there; the far end is closed
pub record OpenedNearAlone (o : Option Session) : Type 0 where
  pub session : Session
  pub found : o ≡ Some session
  pub down : session.is_down ≡ true
  pub near : session.near.phase ≡ Opened
  pub notice : session.near.notice ≡ true
  pub far : session.far.phase ≡ Idle

-- the session is down; the near end is closed, and the far end is as it was: it was not opened, and sent nothing
pub record OpenedNone (far : SessionEnd) (o : Option Session) : Type 0 where
  pub session : Session
  pub found : o ≡ Some session
  pub down : session.is_down ≡ true
  pub near : session.near.phase ≡ Idle
  pub phase : session.far.phase ≡ Idle
  pub notice : session.far.notice ≡ false
  pub breaks : session.far.breaks ≡ far.breaks

-- ---- numbers of sessions
-- the two agents have numbers there, and the first one's is lesser
pub record AreNumberedInOrder (agents : List (Option NodeId)) (a b : NodeId) : Type 0 where
  pub first : ℕ
  pub second : ℕ
  pub in_order : first < second
  pub first_has : slice_get agents first ≡ Some (Some a)
  pub second_has : slice_get agents second ≡ Some (Some b)

-- ---- sessions that an edit takes away
-- a network stands on another setup, and a compute node has the sessions of its new list in place of its old ones
abbrev pub with_new_sessions : MachineState → Setup → Move → MachineState
with_new_sessions w x m = record {
  setup = x;
  sessions = replaced m.name (brought x.topology.controllers m.now) w.sessions;
}
