-- What the loss of a session and the restart of a node make of the state for which seats stand.
use Rattle.std.specs.Prelude.{◌≡◌, ℕ, zero, suc, ◌+◌, List, [], length, true, false}
use Rattle.std.specs.declared.option.Option.TheVariants.{Some}
use Rattle.schedule_script.specs.declared.answer.Answer.TheVariants.{Did, Idle}
use Rattle.machine_laws.specs.MachineModel.Setup.{Name}
use Rattle.machine_laws.specs.MachineModel.Network.{MachineState}
use Rattle.machine_laws.specs.MachineModel.Events.{Lose, Restart, answer_to, next}
use Rattle.running_nodes.specs.Seats.{Seat, far_of, is_down_at, place_of, seat, seat_named}
use Rattle.running_nodes.specs.Steps.{emptied, told_of_loss, with_link, with_notice, with_seat}
use Rattle.running_nodes.specs.Stands.{StandsFor, message_size}
use Rattle.running_nodes.specs.declared.place.SessionPlace.{SessionPlace}
use Rattle.running_laws.specs.Moments.{IsMoment}
use Rattle.running_laws.specs.Asking.{AreAt}

-- ---- a loss
-- a notice waits at each end, and nothing is in flight
abbrev pub cut : SessionPlace → SessionPlace → List Seat → List Seat
cut p far seats = with_link far [] (with_link p [] (with_notice far true (with_notice p true seats)))

abbrev pub LossesAreMade : Type 0
LossesAreMade =
    (seats : List Seat) (w : MachineState) → IsMoment w → StandsFor seats w → (a b : Name) (p far : SessionPlace)
    → AreAt seats a b p far → is_down_at seats p ≡ false
    → StandsFor (cut p far seats) (next message_size w (Lose a b)) × IsMoment (next message_size w (Lose a b))
    × (answer_to w (Lose a b) ≡ Did)

-- where the session is down, or there is none
abbrev pub NothingIsLost : Type 0
NothingIsLost =
    (seats : List Seat) (w : MachineState) → IsMoment w → StandsFor seats w → (a b : Name)
    → ((p : SessionPlace) → place_of seats a b ≡ Some p → is_down_at seats p ≡ true)
    → (next message_size w (Lose a b) ≡ w) × (answer_to w (Lose a b) ≡ Idle)

-- ---- a restart
-- the other ends of n sessions of a node that restarts, from the one with this number on, are told of the loss
abbrev pub all_told : ℕ → ℕ → ℕ → List Seat → List Seat
all_told zero k i seats = seats
all_told (suc n) k i seats =
    all_told n k (i + 1) (told_of_loss seats (far_of seats (record { node = k; session = i })))

-- a node loses all that it has, and then the other end of each of its sessions is told
abbrev pub restarted : List Seat → ℕ → List Seat
restarted seats k = all_told (length (seat seats k).posts) k 0 (with_seat k (emptied (seat seats k)) seats)

abbrev pub RestartsAreMade : Type 0
RestartsAreMade =
    (seats : List Seat) (w : MachineState) → IsMoment w → StandsFor seats w → (name : Name) (k : ℕ)
    → seat_named seats name ≡ Some (suc k)
    → StandsFor (restarted seats (suc k)) (next message_size w (Restart name)) × IsMoment (next message_size w (Restart name))
    × (answer_to w (Restart name) ≡ Did)

-- where no node but perhaps the configuration node has the name
abbrev pub NothingIsRestarted : Type 0
NothingIsRestarted =
    (seats : List Seat) (w : MachineState) → IsMoment w → StandsFor seats w → (name : Name)
    → ((k : ℕ) → seat_named seats name ≡ Some k → k ≡ 0)
    → (next message_size w (Restart name) ≡ w) × (answer_to w (Restart name) ≡ Idle)
