use Rattle.node_core.proofs.Cutting.{leaves_some, leaves_one, leaving_hears, leaves_few, left_is_part, nothing_left}
use Rattle.node_core.proofs.laws.what_is_left_is_one.Goals as goal

pub returns-clause-some : goal.returns-clause-some
returns-clause-some c = leaves_some

pub returns-clause-one : goal.returns-clause-one
returns-clause-one c = leaves_one

pub returns-clause-hears : goal.returns-clause-hears
returns-clause-hears c = leaving_hears

pub returns-clause-few : goal.returns-clause-few
returns-clause-few c = leaves_few

pub returns-clause-part : goal.returns-clause-part
returns-clause-part c = left_is_part

pub returns-clause-none : goal.returns-clause-none
returns-clause-none c = nothing_left
