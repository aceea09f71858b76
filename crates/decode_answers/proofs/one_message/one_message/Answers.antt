use Rattle.decode_answers.proofs.Deciding.{none_as_whole}
use Rattle.decode_answers.proofs.one_message.one_message.Goals as goal

pub returns-else-count-octets-clause-none : goal.returns-else-count-octets-clause-none
returns-else-count-octets-clause-none c =
    none_as_whole _ _ _ _ c.in-Ok-Some.field-0-is c.in-Ok-Some.ensures.message c.if-count-octets.false
