-- Rounds of deliveries: any deliveries, in any order, that take at least all that was in flight when they began.
use Rattle.std.specs.Prelude.{◌≡◌, ◌≢◌, ℕ, ◌+◌, ◌-◌, ◌≤◌, List, [], ◌∷◌, Bool, true, false, not, ◌&&◌}
use Rattle.std.specs.Prelude.{if◌then◌else◌}
use Rattle.std.specs.List.{AllByRecursion, list_all}
use Rattle.ov_types.specs.First.{same_name}
use Rattle.machine_model.specs.Setup.{Name}
use Rattle.machine_model.specs.Session.{Message, Session}
use Rattle.machine_model.specs.Network.{MachineState}
use Rattle.machine_model.specs.Steps.{Due, dues, in_flight, notice_stands}
use Rattle.machine_model.specs.Events.{MachineEvent, Deliver, DeliverOctets, Round, next, after}

-- ---- where rounds begin
abbrev pub is_empty : List ℕ → Bool
is_empty [] = true
is_empty (n ∷ ns) = false

abbrev pub has_no_break : Session → Bool
has_no_break s = is_empty s.near.breaks && is_empty s.far.breaks

-- no session is down
abbrev pub is_whole : MachineState → Bool
is_whole w = list_all (λ s. not s.is_down) w.sessions

-- no break is pending
abbrev pub is_unbroken : MachineState → Bool
is_unbroken w = list_all has_no_break w.sessions

-- ---- rounds
-- whether an event is a delivery in this direction, and whether it is made of deliveries at all
abbrev pub goes : Name → Name → MachineEvent → Bool
goes from to (Deliver a b n) = same_name a from && same_name b to
goes from to (DeliverOctets a b n) = same_name a from && same_name b to
goes from to _ = false

abbrev pub is_delivery : MachineEvent → Bool
is_delivery (Deliver a b n) = true
is_delivery (DeliverOctets a b n) = true
is_delivery Round = true
is_delivery _ = false

module _ (size : Name → Message → ℕ) where
  -- how many messages and notices of a direction an event takes. The last octet of a message takes it, and the event
  -- `Round` takes all that was in flight
  abbrev pub taken_by : Name → Name → MachineState → MachineEvent → ℕ
  taken_by from to w Round = in_flight w from to
  taken_by from to w e = if goes from to e then in_flight w from to - in_flight (next size w e) from to else 0

  -- how much a list of events takes in one direction
  abbrev pub taken_of : Name → Name → MachineState → List MachineEvent → ℕ
  taken_of from to w [] = 0
  taken_of from to w (e ∷ es) = taken_by from to w e + taken_of from to (next size w e) es

  -- deliveries, in any order, that take at least all that was in flight when they began
  pub record IsRound (w : MachineState) (es : List MachineEvent) : Type 0 where
    pub deliveries : list_all is_delivery es ≡ true
    pub takes_all : (from to : Name) → in_flight w from to ≤ taken_of from to w es

  abbrev pub AreRounds : MachineState → List (List MachineEvent) → Type 0
  AreRounds w [] = Unit {0}
  AreRounds w (es ∷ rounds) = IsRound w es × AreRounds (after size w es) rounds

  abbrev pub after_rounds : MachineState → List (List MachineEvent) → MachineState
  after_rounds w [] = w
  after_rounds w (es ∷ rounds) = after_rounds (after size w es) rounds

-- ---- the event `Round`
-- the turn of a direction in it. Where a notice stands exactly if one stood when the round began, as many are taken as
-- were in flight then; else nothing is
abbrev pub IsTurn : (Name → Message → ℕ) → Due → MachineState → MachineState → Type 0
IsTurn size d w v =
    (notice_stands w d ≡ d.is_notice → v ≡ next size w (Deliver d.from d.to d.count))
    × ((notice_stands w d ≢ d.is_notice) → v ≡ w)

abbrev pub AreTurns : (Name → Message → ℕ) → List Due → MachineState → MachineState → Type 0
AreTurns size [] w v = v ≡ w
AreTurns size (d ∷ ds) w v = (u : MachineState) × IsTurn size d w u × AreTurns size ds u v

-- each direction has its turn once, in the order of a round, with what was in flight there
pub record IsTakenInTurns (size : Name → Message → ℕ) (w : MachineState) : Type 0 where
  pub turns : AreTurns size (dues w) w (next size w Round)
  pub counts : AllByRecursion (λ d. d.count ≡ in_flight w d.from d.to) (dues w)

-- a round is one of deliveries, which take of each direction exactly what was in flight when it began
pub record IsOfDeliveries (size : Name → Message → ℕ) (w : MachineState) : Type 0 where
  pub deliveries : List MachineEvent
  pub same : next size w Round ≡ after size w deliveries
  pub is_round : IsRound size w deliveries
  pub exactly : (from to : Name) → taken_of size from to w deliveries ≡ in_flight w from to
