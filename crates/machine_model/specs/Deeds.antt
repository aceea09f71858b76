-- What events do, in words that their definitions do not use.
use Rattle.std.specs.Prelude.{◌≡◌, ◌≢◌, ◌⊎◌, ◌≤◌, ◌<◌, ◌==◌, ◌+◌, ℕ, max, List, [], length, true, false, if◌then◌else◌}
use Rattle.std.specs.declared.option.Option.{Option}
use Rattle.std.specs.declared.option.Option.TheVariants.{Some, None}
use Rattle.std.specs.FinMap.{empty}
use Rattle.std.specs.List.{slice_index_or}
use Rattle.ov_types.specs.declared.rows.NodeId.{NodeId}
use Rattle.schedule_script.specs.ConfigTypes.Edit.{Edit}
use Rattle.schedule_script.specs.ConfigTypes.Edit.TheVariants.{Put, Delete}
use Rattle.schedule_script.specs.ConfigTypes.Object.TheVariants as objects
use Rattle.schedule_script.specs.ConfigTypes.ObjectKind.TheVariants as kinds
use Rattle.schedule_script.specs.ConfigTypes.Node.{Node}
use Rattle.schedule_script.specs.ConfigTypes.Topology.{Topology}
use Rattle.schedule_script.specs.ConfigCheck.Finding.{node_named}
use Rattle.transform_model.specs.NodeModel.Members.{Member}
use Rattle.transform_model.specs.NodeModel.Step.{Idle, Opened}
use Rattle.machine_model.specs.Setup.{Name}
use Rattle.machine_model.specs.Session.{SessionEnd, Session}
use Rattle.machine_model.specs.Network.{MachineState, is_at, is_of, sessions_of, views_of}
use Rattle.machine_model.specs.Steps.{session_of}
use Rattle.machine_model.specs.Events.{MachineEvent, Deliver, DeliverOctets, Lose, Connect, Restart, Show, Break}
use Rattle.machine_model.specs.Moments.{TellsWanted}

-- two nodes are not these two, either way round
abbrev pub AreOthers : Name → Name → Name → Name → Type 0
AreOthers a b c d = (a ≡ c → b ≡ d → ⊥) × (a ≡ d → b ≡ c → ⊥)

-- both ends of the session are opened
pub record IsOpenedAt (o : Option Session) : Type 0 where
  pub session : Session
  pub found : o ≡ Some session
  pub whole : session.is_down ≡ false
  pub near : session.near.phase ≡ Opened
  pub far : session.far.phase ≡ Opened

-- an end that has nothing
pub record IsClosed (e : SessionEnd) : Type 0 where
  pub phase : e.phase ≡ Idle
  pub notice : e.notice ≡ false
  pub sent : e.sent ≡ empty
  pub held : e.held ≡ empty
  pub flight : e.flight ≡ []

-- a session that is down and of which nothing is there
pub record IsNew (s : Session) : Type 0 where
  pub down : s.is_down ≡ true
  pub near : IsClosed s.near
  pub far : IsClosed s.far

-- a session is new, where it is one of the agent of this name
abbrev pub IsNewFor : Name → Session → Type 0
IsNewFor name s = is_of name s ≡ true → IsNew s

-- ---- events for which there is nothing to do
-- there is no session of the two nodes, or one that is so
abbrev pub NoneOr : (Session → Type 0) → Option Session → Type 0
NoneOr P o = (o ≡ None) ⊎ ((s : Session) × (o ≡ Some s) × P s)

-- nothing is in flight towards the near end
abbrev pub WaitsForNothing : Session → Type 0
WaitsForNothing s = (s.near.notice ≡ false) × (s.far.flight ≡ [])

-- a session is not down, or a notice is pending at an end
abbrev pub MayNotConnect : Session → Type 0
MayNotConnect s = (s.is_down ≡ false) ⊎ ((s.near.notice ≡ true) ⊎ (s.far.notice ≡ true))

-- no control node and no compute node has the name
abbrev pub IsNoNode : Topology → Name → Type 0
IsNoNode t name =
    ((c : NodeId) → Member c t.controllers → c.name ≢ name) × ((n : Node) → Member n t.nodes → n.name ≢ name)

abbrev pub HasNothingToDo : MachineState → MachineEvent → Type 0
HasNothingToDo w (Deliver from to n) = NoneOr WaitsForNothing (session_of w to from)
HasNothingToDo w (DeliverOctets from to n) = NoneOr WaitsForNothing (session_of w to from)
HasNothingToDo w (Lose a b) = NoneOr (λ s. s.is_down ≡ true) (session_of w a b)
HasNothingToDo w (Connect a b) = NoneOr MayNotConnect (session_of w a b)
HasNothingToDo w (Restart name) = IsNoNode w.setup.topology name
HasNothingToDo w (Show name) = IsNoNode w.setup.topology name
HasNothingToDo w (Break from to n) = session_of w from to ≡ None
HasNothingToDo w _ = ⊥

-- one of the next so many sends meets a break
pub record MeetsOne (sends : ℕ) (breaks : List ℕ) : Type 0 where
  pub number : ℕ
  pub pending : Member number breaks
  pub comes : 1 ≤ number
  pub within : number ≤ sends

-- ---- compute nodes that an edit moves
-- a node of this name stands there, with the same address and the same list of control nodes
pub record StandsThere (t : Topology) (n : Node) : Type 0 where
  pub node : Node
  pub found : node_named t n.name ≡ Some node
  pub address : node.address ≡ n.address
  pub controllers : node.controllers ≡ n.controllers

-- an edit puts no compute node and deletes none
abbrev pub IsOfNoNode : Edit → Type 0
IsOfNoNode (Put (objects.Node n)) = ⊥
IsOfNoNode (Delete kinds.Node name) = ⊥
IsOfNoNode _ = Unit {0}

-- no break is pending in the direction from this node
abbrev pub SendsFreely : Name → Session → Type 0
SendsFreely name s =
    (is_at name s.near ≡ true → s.near.breaks ≡ []) × (is_at name s.far ≡ true → s.far.breaks ≡ [])

-- on each session that may send, what was sent is what the node wants, also where one of its sessions is down
abbrev pub NodeTells : MachineState → Name → Type 0
NodeTells w name = TellsWanted w.setup (views_of name w.sessions) (sessions_of name w.sessions)

-- ---- numbers
-- the agent whose session has this number. A retired number is of none, and so is one behind all
abbrev pub agent_at : List (Option NodeId) → ℕ → Option NodeId
agent_at agents number = slice_index_or agents number None

-- the least number that is no agent's
pub record IsLeastFree (agents : List (Option NodeId)) (number : ℕ) : Type 0 where
  pub within : number ≤ length agents
  pub free : agent_at agents number ≡ None
  pub below : (i : ℕ) → i < number → agent_at agents i ≢ None

-- the agent has the least number that was free, and each other number is whose it was
pub record HasTaken (a : NodeId) (before after : List (Option NodeId)) : Type 0 where
  pub number : ℕ
  pub least : IsLeastFree before number
  pub agents : (i : ℕ) → agent_at after i ≡ (if i == number then Some a else agent_at before i)
  pub count : length after ≡ max (length before) (number + 1)
