use Rattle.std.proofs.Common.{sym, ◌∙◌}
use Rattle.decode_answers.proofs.FoundOctets.{all_found, nothing_spelled}
use Rattle.decode_answers.proofs.digits.octets_of.Goals as goal

pub returns : goal.returns
returns c =
    all_found _ _ c.loop-rest.rest.now c.loop-rest.invariant (nothing_spelled _ (sym c.is_empty.ensures ∙ c.loop-rest-test.false))
