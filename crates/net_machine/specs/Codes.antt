-- How networks that run are told apart: by the codes of their parts.
use Rattle.std.specs.Prelude.{List, Bool, refl}
use Rattle.std.specs.Coded.{Coded, code_by, coded×, coded_bool, coded_list}
use Rattle.config_check.specs.Checked.{Checked}
use Rattle.config_check.specs.contracts.valid.Valid as valid
use Rattle.config_types.specs.declared.event.Event.{Event}
use Rattle.config_types.specs.contracts.event.Event as events
use Rattle.schedule_script.specs.Kept.{Kept}
use Rattle.schedule_script.specs.contracts.kept.Ties as ties
use Rattle.running_nodes.specs.Seats.{Seat}
use Rattle.running_nodes.specs.Codes.{coded_seat}
use Rattle.net_machine.specs.NetState.{NetState}

abbrev pub coded_net : Coded NetState
coded_net =
    code_by (Checked × (Kept × (List Event × (List Seat × Bool))))
    (coded× valid.the_row.coded (coded× ties.the_row.coded (coded× (coded_list events.the_row.coded)
    (coded× (coded_list coded_seat) coded_bool))))
    (λ n. (n.opening, (n.ties, (n.events, (n.seats, n.failed)))))
    (λ c. record { opening = c.0; ties = c.1.0; events = c.1.1.0; seats = c.1.1.1.0; failed = c.1.1.1.1 }) (λ _. refl)
