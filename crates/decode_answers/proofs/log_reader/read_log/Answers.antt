use Rattle.decode_answers.proofs.Forms.{read_form}
use Rattle.decode_answers.proofs.log_reader.read_log.Goals as goal

pub returns-clause-form : goal.returns-clause-form
returns-clause-form c = read_form _ _ c.log_of.ensures
