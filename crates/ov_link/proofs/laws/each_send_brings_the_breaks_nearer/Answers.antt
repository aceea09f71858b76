use Rattle.ov_link.proofs.BreakLemmas.{is_break-later, is_break-with_break}
use Rattle.ov_link.proofs.laws.each_send_brings_the_breaks_nearer.Goals as goal

pub returns-clause-counted : goal.returns-clause-counted
returns-clause-counted c = is_break-later

pub returns-clause-added : goal.returns-clause-added
returns-clause-added c = is_break-with_break
