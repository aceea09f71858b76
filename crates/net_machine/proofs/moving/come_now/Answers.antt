use Rattle.std.proofs.Common.{sym, ◌∙◌, ap}
use Rattle.std.specs.Prelude.{option_copied}
use Rattle.running_nodes.specs.Moving.{came_to}
use Rattle.running_nodes.specs.Seats.{seat}
use Rattle.running_nodes.specs.Steps.{with_seat}
use Rattle.net_machine.proofs.Coming.{same_seat}
use Rattle.net_machine.proofs.moving.come_now.Goals as goal

pub returns-in-None-clause-comes : goal.returns-in-None-clause-comes
returns-in-None-clause-comes c =
    let seats = c.args.nodes.now.seats in
    same_seat seats c.args.index
    ∙ ap (λ now. with_seat c.args.index (came_to (option_copied now) (seat seats c.args.index)) seats) (sym c.in-None.is)
