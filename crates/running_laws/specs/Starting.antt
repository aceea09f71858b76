-- The seats of nodes that have nothing of each other.
use Rattle.std.specs.Prelude.{map}
use Rattle.schedule_script.specs.ConfigCheck.Checked.{Checked}
use Rattle.machine_laws.specs.MachineModel.Setup.{opening}
use Rattle.machine_laws.specs.MachineModel.Network.{start}
use Rattle.machine_laws.specs.Headline.{IsWritten}
use Rattle.running_nodes.specs.Seats.{whos}
use Rattle.running_nodes.specs.Stands.{StandsFor}
use Rattle.running_nodes.specs.Steps.{fresh_seat}
use Rattle.running_laws.specs.Moments.{IsMoment}

-- fresh seats stand for the empty state, which is a moment
abbrev pub FreshSeatsStandForTheStart : Type 0
FreshSeatsStandForTheStart =
    (x : Checked) → IsWritten (opening x)
    → StandsFor (map fresh_seat (whos (opening x))) (start x) × IsMoment (start x)
