-- What is asked of a network in which a compute node moves: that what goes is there, and what comes has its place.
use Rattle.std.specs.Prelude.{◌≡◌, ◌≤◌, ◌<◌, ℕ, zero, suc, List, [], length, slice_get}
use Rattle.std.specs.declared.option.Option.{Option}
use Rattle.std.specs.declared.option.Option.TheVariants.{Some, None}
use Rattle.std.specs.List.{All, Contains}
use Rattle.std.specs.Option.{option_map}
use Rattle.ov_types.specs.declared.rows.NodeId.{NodeId}
use Rattle.config_check.specs.Checked.{Checked}
use Rattle.config_check.specs.Edits.{edit_fault, edited}
use Rattle.config_check.specs.Rules.{controller_names}
use Rattle.config_types.specs.declared.edit.Edit.{Edit}
use Rattle.config_types.specs.declared.event.Event.{Event}
use Rattle.config_types.specs.declared.event.Event.TheVariants as event
use Rattle.config_types.specs.declared.topology.Node.{Node}
use Rattle.config_types.specs.declared.topology.Topology.{Topology}
use Rattle.running_nodes.specs.MachineModel.Setup.{Move, Name, moves}
use Rattle.running_nodes.specs.MachineModel.Session.{Agent}
use Rattle.running_nodes.specs.Controls.{Controls, first_agent}
use Rattle.running_nodes.specs.Moving.{vacated}
use Rattle.running_nodes.specs.Seats.{Who, Configuring, Controlling, Forwarding, Seat, other, role_of, seat, seat_named}
use Rattle.running_nodes.specs.Steps.{with_seat}
use Rattle.running_nodes.specs.declared.place.SessionPlace.{SessionPlace}
use Rattle.net_machine.specs.declared.editing.Moved.{Moved}
use Rattle.net_machine.specs.declared.editing.Moved.TheVariants.{Yes, No}

-- ---- an agent that goes
-- a control node has one session with it at most, which is behind those with other control nodes
abbrev pub CanLeave : Name → Seat → Type 0
CanLeave agent n =
    (c : Controls) → n.who ≡ Controlling c → (i : ℕ) → other n i ≡ Some agent
    → (first_agent c ≤ i) × ((j : ℕ) → other n j ≡ Some agent → j ≡ i)

-- from the control node of a name
pub record GoesFrom (seats : List Seat) (agent control : Name) : Type 0 where
  pub node : ℕ
  pub is : seat_named seats control ≡ Some node
  pub controls : Controls
  pub who : (seat seats node).who ≡ Controlling controls
  pub leaves : CanLeave agent (seat seats node)

-- the end of the control node's session with an agent
pub record IsAgentPlace (seats : List Seat) (agent : Name) (p : SessionPlace) : Type 0 where
  pub node : p.node < length seats
  pub controls : Controls
  pub who : (seat seats p.node).who ≡ Controlling controls
  pub behind : first_agent controls ≤ p.session
  pub there : other (seat seats p.node) p.session ≡ Some agent
  pub alone : (i : ℕ) → other (seat seats p.node) i ≡ Some agent → i ≡ p.session

-- what it leaves of the seats
abbrev pub left_at : Name → Option ℕ → List Seat → List Seat
left_at agent None seats = seats
left_at agent (Some k) seats = with_seat k (vacated agent (seat seats k)) seats

-- ---- which seats are those of control nodes
abbrev pub control_name : Who → Option Name
control_name (Configuring x) = None
control_name (Controlling c) = Some c.me.name
control_name (Forwarding plan) = None

-- the node of a name is a control node, where it is there
abbrev pub IsControlNode : List Seat → Name → Type 0
IsControlNode seats c = (k : ℕ) → seat_named seats c ≡ Some k → control_name (seat seats k).who ≡ Some c

-- a control node of this name is there
abbrev pub HasControl : List Seat → Name → Type 0
HasControl seats c = (k : ℕ) × (control_name (seat seats k).who ≡ Some c)

-- each control node is found by its name
abbrev pub AreFound : List Seat → Type 0
AreFound seats = (k : ℕ) (c : Name) → control_name (seat seats k).who ≡ Some c → seat_named seats c ≡ Some k

abbrev pub control_at : Topology → ℕ → Option Name
control_at t zero = None
control_at t (suc i) = option_map (λ (c : NodeId). c.name) (slice_get t.controllers i)

-- the configuration node comes first, and then the control nodes in the order of the topology
abbrev pub HasControls : Topology → List Seat → Type 0
HasControls t seats = (k : ℕ) → control_name (seat seats k).who ≡ control_at t k

-- agents stand behind all control nodes
abbrev pub HasAgentsBehind : List Seat → Type 0
HasAgentsBehind seats =
    (j k : ℕ) → role_of (seat seats j).who ≡ Agent → j ≤ k → control_name (seat seats k).who ≡ None

-- a control node has room for a session more
abbrev pub HasRoom : List Seat → Type 0
HasRoom seats =
    (k : ℕ) (name : Name) → control_name (seat seats k).who ≡ Some name → length (seat seats k).posts < 65535

-- ---- a compute node that comes, in a topology
-- the control nodes that it lists are there, and no more than two
pub record CanCome (t : Topology) (n : Node) : Type 0 where
  pub few : length n.controllers ≤ 2
  pub listed : All (Contains (controller_names t)) n.controllers

-- ---- a move
pub record CanMove (t : Topology) (m : Move) (seats : List Seat) : Type 0 where
  pub left : All (HasControl seats) m.left
  pub leaves : (k : ℕ) → CanLeave m.name (seat seats k)
  pub found : AreFound seats
  pub controls : HasControls t seats
  pub agents : HasAgentsBehind seats
  pub few : length t.controllers ≤ 8
  pub seats_few : length seats < 65535
  pub room : HasRoom seats
  pub comes : (n : Node) → m.now ≡ Some n → CanCome t n

abbrev pub CanMoveIf : Topology → Option Move → List Seat → Type 0
CanMoveIf t None seats = Unit {0}
CanMoveIf t (Some m) seats = CanMove t m seats

-- what an event needs: an edit without a fault moves what can move
abbrev pub CanHappen : Checked → Event → List Seat → Type 0
CanHappen x (event.Edit e) seats = edit_fault x e ≡ None → CanMoveIf (edited e x).topology (moves e x.topology) seats
CanHappen x _ seats = Unit {0}

abbrev pub did_move : Option Move → Moved
did_move None = No
did_move (Some m) = Yes
