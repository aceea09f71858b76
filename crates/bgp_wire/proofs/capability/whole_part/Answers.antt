use Rattle.bgp_wire.proofs.WholeParts.{first_found, less_is_left, none_found}
use Rattle.bgp_wire.proofs.capability.whole_part.Goals as goal

pub returns-clause-found : goal.returns-clause-found
returns-clause-found c = first_found _ _ c.split_part.ensures.found

pub returns-clause-shorter : goal.returns-clause-shorter
returns-clause-shorter c = less_is_left _ _ c.split_part.ensures.found

pub returns-clause-none : goal.returns-clause-none
returns-clause-none c = none_found _ _ c.split_part.ensures.overrun
