use Rattle.std.proofs.Common.{◌+◌, length}
use Rattle.control_node.specs.Core.{sessions}
use Rattle.control_node.proofs.Retired.{first_least, first_taken, none_first}
use Rattle.control_node.proofs.laws.the_least_retired_number_is_taken.Goals as goal

pub returns-clause-least : goal.returns-clause-least
returns-clause-least c = λ plan are session is.
    first_least plan.retired (1 + length plan.peers) (sessions plan) (sessions plan) session are is

pub returns-clause-behind : goal.returns-clause-behind
returns-clause-behind c = λ plan none. none_first plan.retired (sessions plan) none

pub returns-clause-taken : goal.returns-clause-taken
returns-clause-taken c = λ plan agent are session.
    first_taken plan.retired (1 + length plan.peers) (sessions plan) (sessions plan) session are
