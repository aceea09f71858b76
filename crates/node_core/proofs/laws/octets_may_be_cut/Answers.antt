use Rattle.node_core.proofs.Cutting.{cut_up, heard_of_both, cut_down, parts_join}
use Rattle.node_core.proofs.laws.octets_may_be_cut.Goals as goal

pub returns-clause-up : goal.returns-clause-up
returns-clause-up c = cut_up

pub returns-clause-both : goal.returns-clause-both
returns-clause-both c = heard_of_both

pub returns-clause-down : goal.returns-clause-down
returns-clause-down c = cut_down

pub returns-clause-parts : goal.returns-clause-parts
returns-clause-parts c = parts_join
