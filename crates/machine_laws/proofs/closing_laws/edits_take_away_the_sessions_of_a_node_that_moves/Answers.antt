use Rattle.machine_laws.proofs.Anew.{moved_anew}
use Rattle.machine_laws.proofs.Standing.{others_stay, put_stays}
use Rattle.machine_laws.proofs.closing_laws.edits_take_away_the_sessions_of_a_node_that_moves.Goals as goal

pub returns-clause-anew : goal.returns-clause-anew
returns-clause-anew c = moved_anew

pub returns-clause-others : goal.returns-clause-others
returns-clause-others c = others_stay

pub returns-clause-stays : goal.returns-clause-stays
returns-clause-stays c = put_stays
