use Rattle.std.proofs.Common.{◌∙◌, ap}
use Rattle.flow_state.specs.Playing.{Playing, answers_in}
use Rattle.flow_state.proofs.Follow.{opens}
use Rattle.flow_state.proofs.Kept.{starts}
use Rattle.flow_state.proofs.player.Player.new.Goals as goal

pub returns-clause-answers : goal.returns-clause-answers
returns-clause-answers c = rw c.in_ok-table.ensures
    (λ steps. ap (λ (s : Playing). answers_in steps s) (starts c.args.capacity c.args.valid c.in_ok-ties.ties c.in_ok-ties.ensures) ∙ opens c.args.capacity c.args.valid steps)
