use Rattle.hitless_answers.proofs.Said.{edits_are_read, edits_are_said}
use Rattle.hitless_answers.proofs.answering.know_judgements.Goals as goal

pub returns-clause-said : goal.returns-clause-said
returns-clause-said c = edits_are_said c.args.valid.now c.args.edits.now c.know_written.ensures c.requires

pub returns-clause-read : goal.returns-clause-read
returns-clause-read c = edits_are_read c.args.valid.now c.args.edits.now c.know_written.ensures c.requires
