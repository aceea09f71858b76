use Rattle.decode_answers.proofs.SomeText.{some_text}
use Rattle.decode_answers.proofs.log_text_laws.each_log_has_a_text.Goals as goal

pub returns : goal.returns
returns c = some_text
