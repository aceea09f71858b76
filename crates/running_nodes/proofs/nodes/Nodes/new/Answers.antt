use Rattle.std.proofs.Common.{IfOk, map, sym, ◌∙◌, ◌≡◌, ap, subst}
use Rattle.config_check.specs.Checked.{Checked}
use Rattle.running_nodes.specs.ConfigNode.Core.{Core, fresh}
use Rattle.running_nodes.specs.Seats.{whos}
use Rattle.running_nodes.specs.Steps.{fresh_seat}
use Rattle.running_nodes.specs.MachineModel.Setup.{opening}
use Rattle.running_nodes.specs.Halves.{Standing}
use Rattle.running_nodes.proofs.nodes.Nodes.new.Goals as goal

pub with_config-requires : goal.with_config-requires
with_config-requires c =
    c.in_ok-config.ensures ∙ ap fresh (sym (ap (λ (k : Core). k.setup) c.in_ok-config.ensures))

pub returns-clause-seats : goal.returns-clause-seats
returns-clause-seats c =
    subst (λ (x : Checked). IfOk c.with_config.result (λ (n : Standing). n.seats ≡ map fresh_seat (whos (opening x))))
    (ap (λ (k : Core). k.setup) c.in_ok-config.ensures) c.with_config.ensures.seats
