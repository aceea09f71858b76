-- What the loss of a session makes of a network.
use Rattle.std.specs.Prelude.{List, if◌then◌else◌}
use Rattle.running_nodes.specs.Seats.{Seat}
use Rattle.running_laws.specs.Losing.{cut}
use Rattle.net_machine.specs.declared.ends.SessionEnds.{SessionEnds}
use Rattle.net_machine.specs.Seating.{is_down}

-- a session that is not down is lost
abbrev pub lost : List Seat → SessionEnds → List Seat
lost seats e = if is_down seats e then seats else cut e.near e.far seats
