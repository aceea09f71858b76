use Rattle.decode_answers.proofs.OneText.{one_text}
use Rattle.decode_answers.proofs.log_text_laws.logs_have_one_text.Goals as goal

pub returns : goal.returns
returns c = one_text
