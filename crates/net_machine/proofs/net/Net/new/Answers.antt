use Rattle.std.proofs.Common.{IfOk, map, sym, ◌∙◌, ◌≡◌, ap, subst}
use Rattle.config_check.specs.Checked.{Checked}
use Rattle.schedule_script.specs.Kept.{AreAlike, ties_in}
use Rattle.schedule_script.specs.Tying.{ties_of}
use Rattle.running_nodes.specs.MachineModel.Setup.{opening as opening_setup}
use Rattle.running_nodes.specs.Seats.{whos}
use Rattle.running_nodes.specs.Steps.{fresh_seat}
use Rattle.net_machine.specs.NetState.{NetState}
use Rattle.net_machine.proofs.net.Net.new.Goals as goal

pub with_nodes-requires-clause-seats : goal.with_nodes-requires-clause-seats
with_nodes-requires-clause-seats c =
    c.in_ok-nodes.ensures.seats ∙ ap (λ (x : Checked). map fresh_seat (whos (opening_setup x))) (sym c.in_ok-opening.ensures)

pub with_nodes-requires-clause-ties : goal.with_nodes-requires-clause-ties
with_nodes-requires-clause-ties c =
    subst (λ (x : Checked). AreAlike (ties_in c.in_ok-ties.ties) (ties_of x)) (sym c.in_ok-opening.ensures)
    c.in_ok-ties.ensures

pub returns-clause-opening : goal.returns-clause-opening
returns-clause-opening c =
    subst (λ (x : Checked). IfOk c.with_nodes.result (λ (net : NetState). net.opening ≡ x)) c.in_ok-opening.ensures
    c.with_nodes.ensures.opening
