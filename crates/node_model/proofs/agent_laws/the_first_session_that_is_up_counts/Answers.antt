use Rattle.node_model.proofs.Heard.{slice_of_first_up, slice_of_none}
use Rattle.node_model.proofs.agent_laws.the_first_session_that_is_up_counts.Goals as goal

pub returns-clause-first : goal.returns-clause-first
returns-clause-first c = slice_of_first_up

pub returns-clause-none : goal.returns-clause-none
returns-clause-none c = slice_of_none
