use Rattle.top_call.proofs.SomeText.{some_text}
use Rattle.top_call.proofs.laws.each_input_has_a_text.Goals as goal

pub returns : goal.returns
returns c = some_text
