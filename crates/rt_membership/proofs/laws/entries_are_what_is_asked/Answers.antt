use Rattle.rt_membership.proofs.Forms.{entry_asks}
use Rattle.rt_membership.proofs.Writing.{entry_is, entry_read}
use Rattle.rt_membership.proofs.laws.entries_are_what_is_asked.Goals as goal

pub returns-clause-form : goal.returns-clause-form
returns-clause-form c = entry_asks

pub returns-clause-entry : goal.returns-clause-entry
returns-clause-entry c = entry_is

pub returns-clause-read_again : goal.returns-clause-read_again
returns-clause-read_again c = entry_read
