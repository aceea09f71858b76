-- The state for which seats stand is one.
use Rattle.std.specs.Prelude.{◌≡◌, List}
use Rattle.machine_laws.specs.MachineModel.Network.{MachineState}
use Rattle.running_nodes.specs.Seats.{Seat}
use Rattle.running_nodes.specs.Stands.{StandsFor}
use Rattle.running_laws.specs.Moments.{IsMoment}

-- the nodes, with their links, what they keep, their notices and the sends that are to fail, leave nothing of the state
-- open: its configuration, how far each end is, what it sent and holds, each message in flight, how many octets of the
-- first one are taken, and its breaks
abbrev pub SeatsStandForOneState : Type 0
SeatsStandForOneState =
    (seats : List Seat) (w v : MachineState) → IsMoment w → IsMoment v → StandsFor seats w → StandsFor seats v → w ≡ v
