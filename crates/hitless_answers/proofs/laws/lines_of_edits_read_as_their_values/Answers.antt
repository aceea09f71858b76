use Rattle.hitless_answers.proofs.EditsBack.{count_reads, packet_reads, refused_reads}
use Rattle.hitless_answers.proofs.laws.lines_of_edits_read_as_their_values.Goals as goal

pub returns-clause-packet : goal.returns-clause-packet
returns-clause-packet c = packet_reads

pub returns-clause-refused : goal.returns-clause-refused
returns-clause-refused c = refused_reads

pub returns-clause-count : goal.returns-clause-count
returns-clause-count c = count_reads
