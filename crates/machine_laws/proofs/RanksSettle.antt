-- The bound, from any moment of any schedule.
use Rattle.std.specs.Prelude.{◌≡◌, ℕ, suc, ◌<◌, ◌≤◌, List, [], ◌∷◌, map, length, true}
use Rattle.std.specs.declared.option.Option.TheVariants.{Some}
use Rattle.std.proofs.Common.{refl, arith}
use Rattle.machine_model.proofs.OvSync.KeyedLaws.{empty_values}
use Rattle.node_laws.specs.NodeModel.Keys.{Key, key_cmp}
use Rattle.node_laws.specs.NodeModel.Values.{Value}
use Rattle.node_laws.specs.NodeModel.Maps.{Map}
use Rattle.schedule_script.specs.ConfigCheck.Checked.{Checked}
use Rattle.machine_model.specs.Setup.{Setup}
use Rattle.config_types.specs.declared.edit.Edit.{Edit}
use Rattle.machine_model.specs.Setup.{Name, edited, opening}
use Rattle.machine_model.specs.Session.{Role, Message, Session}
use Rattle.machine_model.specs.Network.{MachineState, start}
use Rattle.machine_model.specs.Steps.{resumed}
use Rattle.machine_model.specs.Events.{MachineEvent, after}
use Rattle.machine_model.specs.Moments.{Each, IsLaidOut, nodes, WhereLaidOut}
use Rattle.machine_model.proofs.Twins.{NoTwins}
use Rattle.machine_model.proofs.NetworkFact.{after_sound}
use Rattle.machine_model.proofs.ToldNext.{after_told}
use Rattle.machine_model.proofs.Start.{start_sound, start_told, start_each}
use Rattle.machine_model.proofs.Listed.{start_placed}
use Rattle.machine_model.proofs.CalmOf.{calm_of}
use Rattle.machine_model.proofs.RoundFact.{IsCalm}
use Rattle.machine_model.proofs.Turns.{laid_apart}
use Rattle.machine_laws.proofs.SettleFact.{resumed_calm}
use Rattle.machine_model.specs.Moments.{EditsAreValid}
use Rattle.machine_laws.specs.Settling.{IsCalmed, FairMap, Fair, WantsFair, Ranked, SettlesIn, SettleSettlesIn, WhereRanked}
use Rattle.machine_laws.proofs.EachFact.{Keeps, after_keeps, edits_valid_on}
use Rattle.machine_laws.proofs.FairFact.{fair_keeps}
use Rattle.machine_laws.proofs.Settling.{settled_at_once, settles, settle_settles}

module _ (size : Name → Message → ℕ) (positive : (n : Name) (m : Message) → 0 < size n m) where
  module _ (x : Checked) (Valid : Setup → Type 0) (fair : Name × Role → Name × Role → Key → Value → Type 0) (wants : WantsFair fair Valid) where
    abbrev MayTell : Session → Map → Type 0
    MayTell s m = FairMap fair (s.near.name, s.near.role) (s.far.name, s.far.role) m

    keeps : Keeps size Valid (Fair fair) MayTell
    keeps = fair_keeps fair size Valid wants

    start_fair : Each (Fair fair) (start x).sessions
    start_fair = start_each (Fair fair) (λ n m r q. record { near_held = empty_values key_cmp (fair (m, q) (n, r)); far_held = empty_values key_cmp (fair (n, r) (m, q)); near_flight = tt; far_flight = tt }) x

    -- where an edit of a valid setup that leads to a setup as asked leads to a valid one
    pub stay_valid : (Asked : Setup → Type 0) → ((y : Setup) (d : Edit) (z : Setup) → Valid y → edited y d ≡ Some z → Asked z → Valid z) → Valid (opening x) → (es : List MachineEvent) → EditsAreValid size Asked (start x) es → EditsAreValid size Valid (start x) es
    stay_valid Asked leads valid es edits = edits_valid_on size Asked Valid (Fair fair) MayTell keeps leads (start x) es (valid, start_fair) edits

    module _ (valid : Valid (opening x)) (es : List MachineEvent) (edits : EditsAreValid size Valid (start x) es) where
      abbrev now : MachineState
      now = after size (start x) es

      -- at each moment of a schedule the setup is valid, and all is fair
      pub kept : Valid now.setup × Each (Fair fair) now.sessions
      kept = after_keeps size Valid (Fair fair) MayTell keeps (start x) es edits (valid, start_fair)

      module _ (greatest : ℕ) (apart : NoTwins (map nodes now.sessions)) (laid : IsLaidOut x.topology) (r : Ranked greatest (Fair fair) (map nodes now.sessions) now.setup) where
        pub rounds_settle : SettlesIn greatest size now
        rounds_settle [] whole unbroken many a =
            settled_at_once size positive r.rank r.goal now.setup (map nodes now.sessions) Valid (Fair fair) MayTell r.steps r.fits apart keeps kept.0 now refl (λ from to k. none (r.rank from to k) many (r.below from to k))
          where
            none : (m : ℕ) → greatest ≤ 0 → m ≤ greatest → m ≤ 0
            none m e h = omega (arith, e, h)
        rounds_settle (first ∷ rounds) whole unbroken many a =
            settles size positive r.rank r.goal now.setup (map nodes now.sessions) Valid (Fair fair) MayTell r.steps r.fits apart keeps kept.0 first rounds now refl refl kept.1
            (after_told size (start x) es (start_placed x laid.apart) (start_told x)) (calm_of size positive now.sessions (after_sound size positive (start x) es (start_sound size positive x)) whole unbroken) a
            (λ from to k. below (r.rank from to k) (length rounds) many (r.below from to k))
          where
            below : (m n : ℕ) → greatest ≤ suc n → m ≤ greatest → m ≤ suc n
            below m n e h = omega (arith, e, h)

        pub settle_ends : SettleSettlesIn greatest now
        settle_ends within =
            settle_settles size positive r.rank r.goal now.setup (map nodes now.sessions) Valid (Fair fair) MayTell r.steps r.fits apart keeps kept.0 greatest now
            (refl, refl, kept.1, after_told size (start x) es (start_placed x laid.apart) (start_told x)) (after_sound size positive (start x) es (start_sound size positive x)) within r.below

-- the theorems, with what is valid and what is fair as tests
pub ranks_settle : WhereRanked SettlesIn
ranks_settle size positive x l valid valid_x fair wants es laid edits greatest ranked =
    rounds_settle size positive x (λ y. valid y ≡ true) (λ p q k v. fair p q k v ≡ true) wants valid_x es edits greatest (laid_apart size positive x l es laid) l ranked

pub settle_settles_ranked : WhereRanked (λ greatest size w. SettleSettlesIn greatest w)
settle_settles_ranked size positive x l valid valid_x fair wants es laid edits greatest ranked =
    settle_ends size positive x (λ y. valid y ≡ true) (λ p q k v. fair p q k v ≡ true) wants valid_x es edits greatest (laid_apart size positive x l es laid) l ranked

-- ---- where settling begins
calmed_each : (size : Name → Message → ℕ) (positive : (n : Name) (m : Message) → 0 < size n m) (ss : List Session) → Each (IsCalm size positive) ss → Each IsCalmed ss
calmed_each size positive [] c = tt
calmed_each size positive (s ∷ ss) c = (record { whole = c.0.0.whole; near_notice = c.0.0.near_notice; far_notice = c.0.0.far_notice; near_breaks = c.0.1; far_breaks = c.0.2 }, calmed_each size positive ss c.1)

pub settling_begins_calm : WhereLaidOut (λ size w. Each IsCalmed (resumed w).sessions)
settling_begins_calm size positive x l es v =
    let now = after size (start x) es in
    calmed_each size positive (resumed now).sessions (resumed_calm size positive now (laid_apart size positive x l es v) (after_sound size positive (start x) es (start_sound size positive x)))
