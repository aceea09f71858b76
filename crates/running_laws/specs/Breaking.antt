-- What breaks make of the state for which seats stand: where one is set, and where all that were not met are removed.
use Rattle.std.specs.Prelude.{◌≡◌, ◌<◌, ℕ, List, map}
use Rattle.std.specs.declared.option.Option.TheVariants.{None}
use Rattle.schedule_script.specs.declared.answer.Answer.TheVariants.{Did, Idle}
use Rattle.machine_laws.specs.MachineModel.Setup.{Name}
use Rattle.machine_laws.specs.MachineModel.Network.{MachineState}
use Rattle.machine_laws.specs.MachineModel.Events.{Break, answer_to, next}
use Rattle.running_nodes.specs.Seats.{Seat, place_of}
use Rattle.running_nodes.specs.Steps.{unbroken as unbroken_seat, with_break_at}
use Rattle.running_nodes.specs.Stands.{StandsFor, message_size}
use Rattle.running_nodes.specs.declared.place.SessionPlace.{SessionPlace}
use Rattle.running_laws.specs.Moments.{IsMoment, unbroken}
use Rattle.running_laws.specs.Asking.{AreAt}

-- the n-th send from now on is to fail at the first node's end
abbrev pub BreaksAreSet : Type 0
BreaksAreSet =
    (seats : List Seat) (w : MachineState) → IsMoment w → StandsFor seats w → (from to : Name) (p far : SessionPlace)
    → AreAt seats from to p far → (n : ℕ) → 0 < n
    → StandsFor (with_break_at p n seats) (next message_size w (Break from to n))
    × IsMoment (next message_size w (Break from to n)) × (answer_to w (Break from to n) ≡ Did)

abbrev pub NothingIsBroken : Type 0
NothingIsBroken =
    (seats : List Seat) (w : MachineState) → IsMoment w → StandsFor seats w → (from to : Name)
    → place_of seats from to ≡ None
    → (n : ℕ) → (next message_size w (Break from to n) ≡ w) × (answer_to w (Break from to n) ≡ Idle)

-- no send is to fail any more
abbrev pub BreaksAreRemoved : Type 0
BreaksAreRemoved =
    (seats : List Seat) (w : MachineState) → IsMoment w → StandsFor seats w
    → StandsFor (map unbroken_seat seats) (unbroken w) × IsMoment (unbroken w)
