use Rattle.inspect_changes.proofs.WhatWent.{gone_is, is_gone}
use Rattle.inspect_changes.proofs.laws.what_went_is_not_there.Goals as goal

pub returns : goal.returns
returns g = λ c d o. (gone_is c d o, is_gone c d o)
