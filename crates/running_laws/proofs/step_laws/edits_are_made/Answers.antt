use Rattle.running_laws.proofs.Edited.{edits_are_made, faulty_edits_are_refused}
use Rattle.running_laws.proofs.Given.{given}
use Rattle.running_laws.proofs.step_laws.edits_are_made.Goals as goal

pub returns-clause-made : goal.returns-clause-made
returns-clause-made c = edits_are_made given

pub returns-clause-refused : goal.returns-clause-refused
returns-clause-refused c = faulty_edits_are_refused
