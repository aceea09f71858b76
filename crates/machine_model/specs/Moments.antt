-- What holds at every moment of every schedule, and what holds at rest.
use Rattle.std.specs.Prelude.{◌≡◌, ◌≢◌, ◌↔◌, ℕ, ◌<◌, List, [], ◌∷◌, ◌++◌, map, Bool, true, false, IsTrue}
use Rattle.std.specs.declared.option.Option.{Option}
use Rattle.std.specs.declared.option.Option.TheVariants.{Some, None}
use Rattle.std.specs.List.{AllByRecursion}
use Rattle.std.specs.FinMap.{empty}
use Rattle.ov_sync.specs.Keyed.{IsInStep}
use Rattle.ov_types.specs.declared.rows.NodeId.{NodeId}
use Rattle.schedule_script.specs.ConfigTypes.Node.{Node}
use Rattle.schedule_script.specs.ConfigTypes.Topology.{Topology}
use Rattle.transform_model.specs.NodeModel.Members.{Member}
use Rattle.schedule_script.specs.ConfigCheck.Checked.{Checked}
use Rattle.transform_model.specs.NodeModel.Maps.{Change}
use Rattle.transform_model.specs.NodeModel.Step.{Phase, Idle, Opened, Confirmed, Up}
use Rattle.machine_model.specs.Setup.{Name, Setup, agents_of, edited, id_of, lists}
use Rattle.machine_model.specs.Session.{Role, SessionEnd, Session, Message, Open, Keepalive, Hello, Carries, is_live}
use Rattle.machine_model.specs.Session.{is_peering, may_send, may_send_at}
use Rattle.machine_model.specs.Network.{MachineState, View, AreNamed, asked, start, view, views_of, sessions_of, wanted}
use Rattle.machine_model.specs.Events.{MachineEvent, Edits, next, after}

-- ---- lists of sessions
abbrev pub Each : (Session → Type 0) → List Session → Type 0
Each P sessions = AllByRecursion P sessions

-- the two nodes of a session
abbrev pub NodePair : Type 0
NodePair = (Name × Role) × (Name × Role)

abbrev pub nodes : Session → NodePair
nodes s = ((s.near.name, s.near.role), (s.far.name, s.far.role))

-- ---- what the state of an end says
-- the greetings that an end has sent by then
abbrev pub greeted : Bool → Phase → List Message
greeted peering Idle = []
greeted true Opened = Open ∷ []
greeted true _ = Open ∷ Keepalive ∷ []
greeted false _ = Hello ∷ []

-- the greetings of the other end that it has taken by then
abbrev pub heard : Bool → Phase → List Message
heard true Confirmed = Open ∷ []
heard true Up = Open ∷ Keepalive ∷ []
heard false Up = Hello ∷ []
heard _ _ = []

-- the state that a message leads to. Where there is none the end goes down
abbrev pub cell : Bool → Phase → Message → Option Phase
cell peering Idle m = Some Idle
cell true Opened Open = Some Confirmed
cell true Confirmed Keepalive = Some Up
cell true Up Keepalive = Some Up
cell true Up (Carries d) = Some Up
cell false Opened Hello = Some Up
cell false Up (Carries d) = Some Up
cell _ _ _ = None

-- no message among some, taken in turn, meets a cell that goes down
abbrev pub NoneGoesDown : Bool → Phase → List Message → Type 0
NoneGoesDown peering phase [] = Unit {0}
NoneGoesDown peering phase (m ∷ ms) =
    (next : Phase) × (cell peering phase m ≡ Some next) × NoneGoesDown peering next ms

-- ---- an end, at every moment
-- fewer octets are taken than the first message has, and none where there is none
abbrev pub IsPartly : (Message → ℕ) → List Message → ℕ → Type 0
IsPartly size [] taken = taken ≡ 0
IsPartly size (m ∷ ms) taken = taken < size m

pub record IsProperEnd (size : Name → Message → ℕ) (e : SessionEnd) : Type 0 where
  pub live : IsTrue (is_live e) ↔ (e.phase ≢ Idle)
  -- an end that is not live has sent and held nothing
  pub tidy : is_live e ≡ false → (e.sent ≡ empty) × (e.held ≡ empty)
  -- a notice stands only at a live end
  pub notice : e.notice ≡ true → is_live e ≡ true
  pub taken : IsPartly (size e.name) e.flight e.taken

-- ---- a session that is not down, from its far end to its near one
pub record IsFlowing (peering : Bool) (near far : SessionEnd) : Type 0 where
  -- what is in flight: greetings ahead of all changes
  pub greetings : List Message
  pub changes : List Change
  pub flight : far.flight ≡ greetings ++ map Carries changes
  -- the greetings are those that the one end has sent and the other has not taken, as their states say
  pub greeted : greeted peering far.phase ≡ heard peering near.phase ++ greetings
  -- an end that may not send yet sent no changes
  pub early : may_send_at peering far.phase ≡ false → changes ≡ []
  -- what is held, with the changes in flight applied, is what was sent
  pub in_step : IsInStep near.held changes far.sent
  -- no message in flight meets a cell that goes down
  pub passing : NoneGoesDown peering near.phase far.flight

pub record IsJoined (s : Session) : Type 0 where
  pub near_live : is_live s.near ≡ true
  pub far_live : is_live s.far ≡ true
  pub near_notice : s.near.notice ≡ false
  pub far_notice : s.far.notice ≡ false
  pub inward : IsFlowing (is_peering s) s.near s.far
  pub outward : IsFlowing (is_peering s) s.far s.near

-- ---- a session that is down: nothing is in flight, and each live end has a notice
pub record IsLost (s : Session) : Type 0 where
  pub near_flight : s.near.flight ≡ []
  pub far_flight : s.far.flight ≡ []
  pub near_notice : is_live s.near ≡ true → s.near.notice ≡ true
  pub far_notice : is_live s.far ≡ true → s.far.notice ≡ true

-- ---- what was told
abbrev pub AreWhole : List Session → Type 0
AreWhole own = Each (λ s. s.is_down ≡ false) own

-- on each session that may send, what was sent is what the node wants
abbrev pub TellsWanted : Setup → List View → List Session → Type 0
TellsWanted x vs own = Each (λ s. may_send s ≡ true → s.near.sent ≡ wanted x vs (view s)) own

-- a node owes nothing, unless one of its sessions is down
abbrev pub HasTold : Setup → List Session → Type 0
HasTold x own = AreWhole own → TellsWanted x (map view own) own

abbrev pub NodeHasTold : MachineState → Name → Type 0
NodeHasTold w n = HasTold w.setup (sessions_of n w.sessions)

-- ---- after any schedule, from the empty state
-- every message has an octet
abbrev pub ArePositive : (Name → Message → ℕ) → Type 0
ArePositive size = (n : Name) (m : Message) → 0 < size n m

abbrev pub AtEveryMoment : ((Name → Message → ℕ) → MachineState → Type 0) → Type 0
AtEveryMoment P =
    (size : Name → Message → ℕ) → ArePositive size
    → (x : Checked) (es : List MachineEvent) → P size (after size (start x) es)

-- at every moment of every schedule, where names tell nodes apart
abbrev pub WhereNamed : ((Name → Message → ℕ) → MachineState → Type 0) → Type 0
WhereNamed P =
    (size : Name → Message → ℕ) → ArePositive size
    → (x : Checked) → AreNamed x.topology → (es : List MachineEvent) → P size (after size (start x) es)

-- ---- at rest
-- as the near node sees it: in each direction what is held is what was sent and what the sender's holdings want
pub record IsAtRestWith (x : Setup) (vs : List View) (s : Session) : Type 0 where
  pub held : s.far.held ≡ s.near.sent
  pub wanted : s.near.sent ≡ wanted x vs (view s)

abbrev pub IsAtRest : MachineState → Type 0
IsAtRest w = (n : Name) → Each (IsAtRestWith w.setup (views_of n w.sessions)) (sessions_of n w.sessions)

-- ---- where the topology of each moment is laid out
-- names tell nodes apart, and each compute node lists a control node
pub record IsLaidOut (t : Topology) : Type 0 where
  pub apart : AreNamed t
  pub listing : (n : Node) → Member n t.nodes → (c : NodeId) × Member c t.controllers × (lists n c ≡ true)

-- a property of setups that edits keep: each edit of a schedule that is accepted leads to one that has it
abbrev pub EditIsValid : (Setup → Type 0) → MachineState → MachineEvent → Type 0
EditIsValid Valid w (Edits e) = (y : Setup) → edited w.setup e ≡ Some y → Valid y
EditIsValid Valid w _ = Unit {0}

abbrev pub EditsAreValid : (Name → Message → ℕ) → (Setup → Type 0) → MachineState → List MachineEvent → Type 0
EditsAreValid size Valid w [] = Unit {0}
EditsAreValid size Valid w (e ∷ es) = EditIsValid Valid w e × EditsAreValid size Valid (next size w e) es

abbrev pub LaidOut : Setup → Type 0
LaidOut x = IsLaidOut x.topology

abbrev pub WhereLaidOut : ((Name → Message → ℕ) → MachineState → Type 0) → Type 0
WhereLaidOut P =
    (size : Name → Message → ℕ) → ArePositive size
    → (x : Checked) → IsLaidOut x.topology → (es : List MachineEvent) → EditsAreValid size LaidOut (start x) es
    → P size (after size (start x) es)

-- the sessions are those that the topology asks for, in the order of a round
abbrev pub HasSessions : MachineState → Type 0
HasSessions w = map nodes w.sessions ≡ map nodes (asked w.setup.topology)

-- ---- numbers
-- no two have one name
abbrev pub AreOnce : List (Option NodeId) → Type 0
AreOnce [] = Unit {0}
AreOnce (None ∷ agents) = AreOnce agents
AreOnce (Some a ∷ agents) = ((b : NodeId) → Member (Some b) agents → a.name ≢ b.name) × AreOnce agents

-- the numbers at a control node are of the agents that list it, each once and under its address, or retired
pub record NumbersFit (t : Topology) (c : NodeId) (agents : List (Option NodeId)) : Type 0 where
  pub all : (n : Node) → Member n t.nodes → lists n c ≡ true → Member (Some (id_of n)) agents
  pub only : (a : NodeId) → Member (Some a) agents
      → (n : Node) × Member n t.nodes × (id_of n ≡ a) × (lists n c ≡ true)
  pub once : AreOnce agents

-- the numbers of agents fit at each control node
abbrev pub HasNumbers : Setup → Type 0
HasNumbers x =
    (c : NodeId) → Member c x.topology.controllers → NumbersFit x.topology c (agents_of x c.name)
