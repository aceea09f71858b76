use Rattle.bgp_wire.proofs.Numbering.{first_counts, none_counts}
use Rattle.bgp_wire.proofs.laws.the_first_four_octet_number_counts.Goals as goal

pub returns-clause-first : goal.returns-clause-first
returns-clause-first c = first_counts

pub returns-clause-none : goal.returns-clause-none
returns-clause-none c = none_counts
