use Rattle.std.proofs.Common.{sym, ◌∙◌}
use Rattle.decode_answers.proofs.FoundOctets.{begins_with_pair, split_two}
use Rattle.decode_answers.proofs.digits.front_of.Goals as goal

pub returns-in-Some : goal.returns-in-Some
returns-in-Some c =
    begins_with_pair c.args.text.now _ _ _ c.in-Some.octet (split_two c.args.text.now c.if-text-ge2.true) (sym c.pair_octet.ensures ∙ c.in-Some.is)
