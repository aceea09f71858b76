use Rattle.machine_model.proofs.Deeds.{edit_made, setup_kept}
use Rattle.machine_model.proofs.Renumbered.{numbers_come, numbers_go, numbers_stay}
use Rattle.machine_model.proofs.event_laws.edits_change_the_configuration.Goals as goal

pub returns-clause-made : goal.returns-clause-made
returns-clause-made c = edit_made

pub returns-clause-kept : goal.returns-clause-kept
returns-clause-kept c = setup_kept

pub returns-clause-numbers_stay : goal.returns-clause-numbers_stay
returns-clause-numbers_stay c = numbers_stay

pub returns-clause-numbers_go : goal.returns-clause-numbers_go
returns-clause-numbers_go c = numbers_go

pub returns-clause-numbers_come : goal.returns-clause-numbers_come
returns-clause-numbers_come c = numbers_come
