use Rattle.path_select.proofs.Order.{better_on}
use Rattle.path_select.proofs.laws.the_order_is_strict_and_total.Goals as goal

pub returns-clause-passed_on : goal.returns-clause-passed_on
returns-clause-passed_on c = better_on
