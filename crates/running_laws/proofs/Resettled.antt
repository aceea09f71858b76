-- A compute node moves: what is made of the seats, and of the network, before the control nodes that it listed make their
-- passes.
use Rattle.std.specs.Prelude.{List, map}
use Rattle.std.specs.declared.option.Option.{Option}
use Rattle.config_types.specs.declared.edit.Edit.{Edit}
use Rattle.config_types.specs.declared.topology.Node.{Node}
use Rattle.schedule_script.specs.ConfigCheck.Checked.{Checked}
use Rattle.schedule_script.specs.ConfigCheck.Edits as config_edits
use Rattle.machine_laws.specs.MachineModel.Setup.{Move, Name, Setup, checked, moves, remade, renumbered}
use Rattle.machine_laws.specs.MachineModel.Network.{MachineState, brought, replaced}
use Rattle.running_nodes.specs.Seats.{Seat, Configuring, seat}
use Rattle.running_nodes.specs.Moving.{resettled_at}
use Rattle.running_nodes.specs.Steps.{with_seat}

-- what an edit without a fault makes of a setup
abbrev pub setup_after : Setup → Edit → Setup
setup_after x e = remade (config_edits.edited e (checked x)) (renumbered (moves e x.topology) x.numbers)

-- all of them, where the configuration node has what is valid then, and did nothing yet
abbrev pub resettled_seats : Checked → Name → Option Node → List Seat → List Seat
resettled_seats y name now seats =
    with_seat 0 (record (seat (map (resettled_at name now) seats) 0) { who = Configuring y }) (map (resettled_at name now) seats)

-- the network whose sessions were replaced
abbrev pub resettled : Move → Setup → MachineState → MachineState
resettled m y w = record { setup = y; sessions = replaced m.name (brought y.topology.controllers m.now) w.sessions }
