use Rattle.schedule_script.proofs.Growing.{breaks_nothing, joined_tied, nodes_break_nothing, nodes_joined_tied}
use Rattle.schedule_script.proofs.laws.configurations_are_as_their_ties_have_them.Goals as goal

pub returns-clause-tied : goal.returns-clause-tied
returns-clause-tied c = joined_tied

pub returns-clause-nodes : goal.returns-clause-nodes
returns-clause-nodes c = nodes_joined_tied

pub returns-clause-first : goal.returns-clause-first
returns-clause-first c = breaks_nothing

pub returns-clause-first_nodes : goal.returns-clause-first_nodes
returns-clause-first_nodes c = nodes_break_nothing
