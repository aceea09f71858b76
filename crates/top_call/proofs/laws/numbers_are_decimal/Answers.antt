use Rattle.top_call.proofs.Numbers.{is_read, read}
use Rattle.top_call.proofs.laws.numbers_are_decimal.Goals as goal

pub returns : goal.returns
returns c = λ text n. (read text n, is_read text n)
