use Rattle.machine_model.proofs.Renumbered.{delete_moves_it, others_move_none, put_moves_it, put_moves_none}
use Rattle.machine_model.proofs.setup_laws.nodes_move_unless_they_stand_as_they_were.Goals as goal

pub returns-clause-none : goal.returns-clause-none
returns-clause-none c = put_moves_none

pub returns-clause-put : goal.returns-clause-put
returns-clause-put c = put_moves_it

pub returns-clause-deleted : goal.returns-clause-deleted
returns-clause-deleted c = delete_moves_it

pub returns-clause-others : goal.returns-clause-others
returns-clause-others c = others_move_none
