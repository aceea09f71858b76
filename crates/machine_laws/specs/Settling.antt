-- What the wants of nodes must meet, so that rounds settle a network of them.
use Rattle.std.specs.Prelude.{◌≡◌, ℕ, suc, ◌+◌, ◌≤◌, List, [], map, length, Bool, true, false}
use Rattle.std.specs.declared.option.Option.{Option}
use Rattle.std.specs.List.{AllByRecursion}
use Rattle.std.specs.FinMap.{get}
use Rattle.machine_model.specs.OvSync.Keyed.{PutOf, Values}
use Rattle.schedule_script.specs.ConfigCheck.Checked.{Checked}
use Rattle.node_laws.specs.NodeModel.Keys.{Key, key_cmp}
use Rattle.node_laws.specs.NodeModel.Values.{Value}
use Rattle.node_laws.specs.NodeModel.Maps.{Map}
use Rattle.machine_model.specs.Setup.{Name, Setup, longest, opening}
use Rattle.machine_model.specs.Session.{Role, Message, Open, Keepalive, Hello, Carries, Session, turned, is_up_phase}
use Rattle.machine_model.specs.Session.{are_peers}
use Rattle.machine_model.specs.Network.{MachineState, start, wanted, view, views_of, sessions_of}
use Rattle.machine_model.specs.Steps.{is_settled, settle}
use Rattle.machine_model.specs.Events.{MachineEvent, after}
use Rattle.machine_model.specs.Rounds.{AreRounds, after_rounds, is_unbroken, is_whole}
use Rattle.machine_model.specs.Moments.{ArePositive, Each, EditsAreValid, IsLaidOut, LaidOut, NodePair, nodes}

-- ---- what may be told
abbrev pub NodeWithRole : Type 0
NodeWithRole = Name × Role

-- what is fair for one node to tell another, by their names and roles. All that is held or in flight is
module _ (fair : NodeWithRole → NodeWithRole → Key → Value → Type 0) where
  abbrev pub FairMap : NodeWithRole → NodeWithRole → Map → Type 0
  FairMap from to m = Values {R = key_cmp} (fair from to) m

  abbrev pub FairMessage : NodeWithRole → NodeWithRole → Message → Type 0
  FairMessage from to (Carries d) = PutOf (fair from to) d
  FairMessage from to Open = Unit {0}
  FairMessage from to Keepalive = Unit {0}
  FairMessage from to Hello = Unit {0}

  abbrev pub FairMessages : NodeWithRole → NodeWithRole → List Message → Type 0
  FairMessages from to f = AllByRecursion (FairMessage from to) f

  -- on a session with these nodes
  pub record FairAt (p : NodePair) (s : Session) : Type 0 where
    pub near_held : FairMap p.1 p.0 s.near.held
    pub far_held : FairMap p.0 p.1 s.far.held
    pub near_flight : FairMessages p.0 p.1 s.near.flight
    pub far_flight : FairMessages p.1 p.0 s.far.flight

  abbrev pub Fair : Session → Type 0
  Fair s = FairAt (nodes s) s

  -- with a valid configuration, a node that holds what is fair wants what is fair
  abbrev pub WantsFair : (Setup → Type 0) → Type 0
  WantsFair Valid =
      (x : Setup) (ss : List Session) (n : Name) → Valid x → Each Fair ss
      → Each (λ s. FairMap (s.near.name, s.near.role) (s.far.name, s.far.role) (wanted x (views_of n ss) (view s)))
      (sessions_of n ss)

-- ---- ranks. From one node to another each key has a rank, and at rest its value is the goal
abbrev pub Rank : Type 0
Rank = Name → Name → Key → ℕ

abbrev pub Goal : Type 0
Goal = Name → Name → Key → Option Value

abbrev pub back : NodePair → NodePair
back p = (p.1, p.0)

-- every rank is at least 1, and between control nodes at least 3, since their greetings come first
abbrev pub RanksFit : Rank → NodePair → Type 0
RanksFit rank p =
    ((k : Key) → 1 ≤ rank p.1.0 p.0.0 k) × (are_peers p.0.1 p.1.1 ≡ true → (k : Key) → 3 ≤ rank p.1.0 p.0.0 k)

module _ (rank : Rank) (goal : Goal) where
  -- what is held is right up to a rank
  pub record Right (p : NodePair) (r : ℕ) (s : Session) : Type 0 where
    pub held : (k : Key) → rank p.1.0 p.0.0 k ≤ r → get s.near.held k ≡ goal p.1.0 p.0.0 k
    pub up : 1 ≤ r → are_peers p.0.1 p.1.1 ≡ false → is_up_phase s.near.phase ≡ true

  abbrev pub RightAt : ℕ → Session → Type 0
  RightAt r s = Right (nodes s) r s

  -- what the node wants at the other end is right up to a rank
  abbrev pub WantAt : Setup → List Session → Name → ℕ → Session → Type 0
  WantAt x ss n r s =
      (k : Key) → rank s.near.name s.far.name k ≤ r
      → get (wanted x (views_of n ss) (view s)) k ≡ goal s.near.name s.far.name k

  -- where all that is held is right up to a rank, and is as P says, all that is wanted is right up to the next
  abbrev pub Steps : Setup → List NodePair → (Session → Type 0) → Type 0
  Steps x places P =
      (ss : List Session) (r : ℕ) → map nodes ss ≡ places → Each P ss
      → Each (λ s. RightAt r s × RightAt r (turned s)) ss
      → (n : Name) → Each (WantAt x ss n (suc r)) (sessions_of n ss)

-- ranks for the configuration of a moment, none above the greatest
pub record Ranked (greatest : ℕ) (P : Session → Type 0) (places : List NodePair) (x : Setup) : Type 0 where
  pub rank : Rank
  pub goal : Goal
  pub steps : Steps rank goal x places P
  pub fits : AllByRecursion (λ p. RanksFit rank p × RanksFit rank (back p)) places
  pub below : (from to : Name) (k : Key) → rank from to k ≤ greatest

-- ---- settling
-- where no session is down and no break is pending, so many rounds of deliveries, or more, end settled
abbrev pub SettlesIn : ℕ → (Name → Message → ℕ) → MachineState → Type 0
SettlesIn greatest size w =
    (rounds : List (List MachineEvent)) → is_whole w ≡ true → is_unbroken w ≡ true
    → greatest ≤ length rounds → AreRounds size w rounds
    → is_settled (after_rounds size w rounds) ≡ true

-- no session is down, no notice is pending and no break is left
pub record IsCalmed (s : Session) : Type 0 where
  pub whole : s.is_down ≡ false
  pub near_notice : s.near.notice ≡ false
  pub far_notice : s.far.notice ≡ false
  pub near_breaks : s.near.breaks ≡ []
  pub far_breaks : s.far.breaks ≡ []

-- `settle` ends settled, with at most one round more, where it has as many rounds
abbrev pub SettleSettlesIn : ℕ → MachineState → Type 0
SettleSettlesIn greatest w =
    greatest ≤ longest w.setup + 5
    → (is_settled (settle w).1 ≡ true) × ((settle w).0 ≤ greatest + 1)

-- from each moment of each schedule whose configuration has such ranks. Which configurations are valid, and what is
-- fair, is for the caller to choose
abbrev pub WhereRanked : (ℕ → (Name → Message → ℕ) → MachineState → Type 0) → Type 0
WhereRanked Settles =
    (size : Name → Message → ℕ) → ArePositive size
    → (x : Checked) → IsLaidOut x.topology
    → (valid : Setup → Bool) → valid (opening x) ≡ true
    → (fair : NodeWithRole → NodeWithRole → Key → Value → Bool)
    → WantsFair (λ p q k v. fair p q k v ≡ true) (λ y. valid y ≡ true)
    → (es : List MachineEvent) → EditsAreValid size LaidOut (start x) es → EditsAreValid size (λ y. valid y ≡ true) (start x) es
    → (greatest : ℕ)
    → Ranked greatest (Fair (λ p q k v. fair p q k v ≡ true)) (map nodes (after size (start x) es).sessions)
    (after size (start x) es).setup
    → Settles greatest size (after size (start x) es)
