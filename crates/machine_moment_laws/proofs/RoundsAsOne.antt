-- A schedule with deliveries after it, and a list of rounds as one list of deliveries.
use Rattle.std.specs.Prelude.{◌≡◌, ℕ, suc, ◌≤◌, List, [], ◌∷◌, ◌++◌, length, cond, true, false}
use Rattle.std.specs.List.{filter, list_all}
use Rattle.std.proofs.lemmas.Bool.{true≢false, and_parts, and_from}
use Rattle.std.proofs.Common.{refl, sym, ◌∙◌, ap, arith}
use Rattle.machine_model.specs.Setup.{Name, Setup}
use Rattle.machine_model.specs.Session.{Message}
use Rattle.machine_model.specs.Network.{MachineState}
use Rattle.machine_model.specs.Events.{MachineEvent, Edits, Deliver, DeliverOctets, Lose, Connect, Restart, Round, Settle, Show, Trace, Break, next, after}
use Rattle.machine_model.specs.Rounds.{AreRounds, after_rounds, is_delivery, taken_of}
use Rattle.machine_model.specs.Moments.{EditsAreValid}
use Rattle.machine_model.specs.Steps.{in_flight}
use Rattle.machine_moment_laws.specs.Revocation.{delivers_or_looks, is_round}

pub after_append : (size : Name → Message → ℕ) (w : MachineState) (es fs : List MachineEvent) → after size w (es ++ fs) ≡ after size (after size w es) fs
after_append size w [] fs = refl
after_append size w (e ∷ es) fs = after_append size (next size w e) es fs

module _ (size : Name → Message → ℕ) (Valid : Setup → Type 0) where
  deliveries_valid : (w : MachineState) (fs : List MachineEvent) → list_all is_delivery fs ≡ true → EditsAreValid size Valid w fs
  deliveries_valid w [] i = tt
  deliveries_valid w (Deliver a b n ∷ fs) i = (tt, deliveries_valid (next size w (Deliver a b n)) fs i)
  deliveries_valid w (DeliverOctets a b n ∷ fs) i = (tt, deliveries_valid (next size w (DeliverOctets a b n)) fs i)
  deliveries_valid w (Round ∷ fs) i = (tt, deliveries_valid (next size w Round) fs i)
  deliveries_valid w (Edits d ∷ fs) i = absurd (true≢false (sym i))
  deliveries_valid w (Lose a b ∷ fs) i = absurd (true≢false (sym i))
  deliveries_valid w (Connect a b ∷ fs) i = absurd (true≢false (sym i))
  deliveries_valid w (Restart a ∷ fs) i = absurd (true≢false (sym i))
  deliveries_valid w (Settle ∷ fs) i = absurd (true≢false (sym i))
  deliveries_valid w (Show a ∷ fs) i = absurd (true≢false (sym i))
  deliveries_valid w (Trace p ∷ fs) i = absurd (true≢false (sym i))
  deliveries_valid w (Break a b n ∷ fs) i = absurd (true≢false (sym i))

  pub append_valid : (w : MachineState) (es fs : List MachineEvent) → EditsAreValid size Valid w es → list_all is_delivery fs ≡ true → EditsAreValid size Valid w (es ++ fs)
  append_valid w [] fs v i = deliveries_valid w fs i
  append_valid w (e ∷ es) fs v i = (v.0, append_valid (next size w e) es fs v.1 i)

-- ---- a list of rounds as one schedule
abbrev pub flat : List (List MachineEvent) → List MachineEvent
flat [] = []
flat (es ∷ rounds) = es ++ flat rounds

pub after_flat : (size : Name → Message → ℕ) (w : MachineState) (rounds : List (List MachineEvent)) → after_rounds size w rounds ≡ after size w (flat rounds)
after_flat size w [] = refl
after_flat size w (es ∷ rounds) = after_flat size (after size w es) rounds ∙ sym (after_append size w es (flat rounds))

both_deliveries : (es fs : List MachineEvent) → list_all is_delivery es ≡ true → list_all is_delivery fs ≡ true → list_all is_delivery (es ++ fs) ≡ true
both_deliveries [] fs a b = b
both_deliveries (e ∷ es) fs a b = let p = and_parts (is_delivery e) (list_all is_delivery es) a in and_from (is_delivery e) (list_all is_delivery (es ++ fs)) p.0 (both_deliveries es fs p.1 b)

pub flat_deliveries : (size : Name → Message → ℕ) (w : MachineState) (rounds : List (List MachineEvent)) → AreRounds size w rounds → list_all is_delivery (flat rounds) ≡ true
flat_deliveries size w [] r = refl
flat_deliveries size w (es ∷ rounds) r = both_deliveries es (flat rounds) r.0.deliveries (flat_deliveries size (after size w es) rounds r.1)

-- ---- a list of deliveries as what comes before its first round, and what follows from each round on
abbrev pub before_rounds : List MachineEvent → List MachineEvent
before_rounds [] = []
before_rounds (Round ∷ es) = []
before_rounds (e ∷ es) = e ∷ before_rounds es

abbrev pub from_rounds : List MachineEvent → List (List MachineEvent)
from_rounds [] = []
from_rounds (Round ∷ es) = (Round ∷ before_rounds es) ∷ from_rounds es
from_rounds (e ∷ es) = from_rounds es

pub parts_are : (es : List MachineEvent) → before_rounds es ++ flat (from_rounds es) ≡ es
parts_are [] = refl
parts_are (Round ∷ es) = ap (λ (fs : List MachineEvent). Round ∷ fs) (parts_are es)
parts_are (Edits d ∷ es) = ap (λ (fs : List MachineEvent). Edits d ∷ fs) (parts_are es)
parts_are (Deliver a b n ∷ es) = ap (λ (fs : List MachineEvent). Deliver a b n ∷ fs) (parts_are es)
parts_are (DeliverOctets a b n ∷ es) = ap (λ (fs : List MachineEvent). DeliverOctets a b n ∷ fs) (parts_are es)
parts_are (Lose a b ∷ es) = ap (λ (fs : List MachineEvent). Lose a b ∷ fs) (parts_are es)
parts_are (Connect a b ∷ es) = ap (λ (fs : List MachineEvent). Connect a b ∷ fs) (parts_are es)
parts_are (Restart a ∷ es) = ap (λ (fs : List MachineEvent). Restart a ∷ fs) (parts_are es)
parts_are (Settle ∷ es) = ap (λ (fs : List MachineEvent). Settle ∷ fs) (parts_are es)
parts_are (Show a ∷ es) = ap (λ (fs : List MachineEvent). Show a ∷ fs) (parts_are es)
parts_are (Trace p ∷ es) = ap (λ (fs : List MachineEvent). Trace p ∷ fs) (parts_are es)
parts_are (Break a b n ∷ es) = ap (λ (fs : List MachineEvent). Break a b n ∷ fs) (parts_are es)

pub rounds_counted : (es : List MachineEvent) → length (from_rounds es) ≡ length (filter is_round es)
rounds_counted [] = refl
rounds_counted (Round ∷ es) = ap suc (rounds_counted es)
rounds_counted (Edits d ∷ es) = rounds_counted es
rounds_counted (Deliver a b n ∷ es) = rounds_counted es
rounds_counted (DeliverOctets a b n ∷ es) = rounds_counted es
rounds_counted (Lose a b ∷ es) = rounds_counted es
rounds_counted (Connect a b ∷ es) = rounds_counted es
rounds_counted (Restart a ∷ es) = rounds_counted es
rounds_counted (Settle ∷ es) = rounds_counted es
rounds_counted (Show a ∷ es) = rounds_counted es
rounds_counted (Trace p ∷ es) = rounds_counted es
rounds_counted (Break a b n ∷ es) = rounds_counted es

pub before_deliver : (es : List MachineEvent) → list_all is_delivery es ≡ true → list_all is_delivery (before_rounds es) ≡ true
before_deliver [] i = refl
before_deliver (Deliver a b n ∷ es) i = before_deliver es i
before_deliver (DeliverOctets a b n ∷ es) i = before_deliver es i
before_deliver (Round ∷ es) i = refl
before_deliver (Edits d ∷ es) i = absurd (true≢false (sym i))
before_deliver (Lose a b ∷ es) i = absurd (true≢false (sym i))
before_deliver (Connect a b ∷ es) i = absurd (true≢false (sym i))
before_deliver (Restart a ∷ es) i = absurd (true≢false (sym i))
before_deliver (Settle ∷ es) i = absurd (true≢false (sym i))
before_deliver (Show a ∷ es) i = absurd (true≢false (sym i))
before_deliver (Trace p ∷ es) i = absurd (true≢false (sym i))
before_deliver (Break a b n ∷ es) i = absurd (true≢false (sym i))

module _ (size : Name → Message → ℕ) where
  takes_all : (w : MachineState) (es : List MachineEvent) (from to : Name) → in_flight w from to ≤ taken_of size from to w (Round ∷ es)
  takes_all w es from to = omega arith

  -- each of them is a round
  pub are_rounds : (w : MachineState) (es : List MachineEvent) → list_all is_delivery es ≡ true → AreRounds size w (from_rounds es)
  are_rounds w [] i = tt
  are_rounds w (Deliver a b n ∷ es) i = are_rounds w es i
  are_rounds w (DeliverOctets a b n ∷ es) i = are_rounds w es i
  are_rounds w (Round ∷ es) i = (
    record { deliveries = before_deliver es i; takes_all = takes_all w (before_rounds es) },
    are_rounds (after size w (Round ∷ before_rounds es)) es i,
  )
  are_rounds w (Edits d ∷ es) i = absurd (true≢false (sym i))
  are_rounds w (Lose a b ∷ es) i = absurd (true≢false (sym i))
  are_rounds w (Connect a b ∷ es) i = absurd (true≢false (sym i))
  are_rounds w (Restart a ∷ es) i = absurd (true≢false (sym i))
  are_rounds w (Settle ∷ es) i = absurd (true≢false (sym i))
  are_rounds w (Show a ∷ es) i = absurd (true≢false (sym i))
  are_rounds w (Trace p ∷ es) i = absurd (true≢false (sym i))
  are_rounds w (Break a b n ∷ es) i = absurd (true≢false (sym i))

  -- looking changes nothing
  pub only_deliveries : (w : MachineState) (es : List MachineEvent) → list_all delivers_or_looks es ≡ true → after size w es ≡ after size w (filter is_delivery es)
  unfolding next
  only_deliveries w [] i = refl
  only_deliveries w (Deliver a b n ∷ es) i = only_deliveries (next size w (Deliver a b n)) es i
  only_deliveries w (DeliverOctets a b n ∷ es) i = only_deliveries (next size w (DeliverOctets a b n)) es i
  only_deliveries w (Round ∷ es) i = only_deliveries (next size w Round) es i
  only_deliveries w (Show a ∷ es) i = only_deliveries w es i
  only_deliveries w (Trace p ∷ es) i = only_deliveries w es i
  only_deliveries w (Edits d ∷ es) i = absurd (true≢false (sym i))
  only_deliveries w (Lose a b ∷ es) i = absurd (true≢false (sym i))
  only_deliveries w (Connect a b ∷ es) i = absurd (true≢false (sym i))
  only_deliveries w (Restart a ∷ es) i = absurd (true≢false (sym i))
  only_deliveries w (Settle ∷ es) i = absurd (true≢false (sym i))
  only_deliveries w (Break a b n ∷ es) i = absurd (true≢false (sym i))

-- what is kept are deliveries, and all rounds
pub all_deliver : (es : List MachineEvent) → list_all is_delivery (filter is_delivery es) ≡ true
all_deliver [] = refl
all_deliver (e ∷ es) = elim (is_delivery e) as (λ b. is_delivery e ≡ b → list_all is_delivery (cond b (e ∷ filter is_delivery es) (filter is_delivery es)) ≡ true) [
  | true ↦ λ is. and_from (is_delivery e) (list_all is_delivery (filter is_delivery es)) is (all_deliver es)
  | false ↦ λ _. all_deliver es
] refl

pub rounds_kept : (es : List MachineEvent) → length (filter is_round (filter is_delivery es)) ≡ length (filter is_round es)
rounds_kept [] = refl
rounds_kept (Round ∷ es) = ap suc (rounds_kept es)
rounds_kept (Edits d ∷ es) = rounds_kept es
rounds_kept (Deliver a b n ∷ es) = rounds_kept es
rounds_kept (DeliverOctets a b n ∷ es) = rounds_kept es
rounds_kept (Lose a b ∷ es) = rounds_kept es
rounds_kept (Connect a b ∷ es) = rounds_kept es
rounds_kept (Restart a ∷ es) = rounds_kept es
rounds_kept (Settle ∷ es) = rounds_kept es
rounds_kept (Show a ∷ es) = rounds_kept es
rounds_kept (Trace p ∷ es) = rounds_kept es
rounds_kept (Break a b n ∷ es) = rounds_kept es
