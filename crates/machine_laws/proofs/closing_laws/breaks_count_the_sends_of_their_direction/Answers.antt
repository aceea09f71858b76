use Rattle.machine_laws.proofs.Breaking.{each_counts, fails_from_then, no_more}
use Rattle.machine_laws.proofs.closing_laws.breaks_count_the_sends_of_their_direction.Goals as goal

pub returns-clause-fails : goal.returns-clause-fails
returns-clause-fails c = fails_from_then

pub returns-clause-counts : goal.returns-clause-counts
returns-clause-counts c = each_counts

pub returns-clause-alone : goal.returns-clause-alone
returns-clause-alone c = no_more
