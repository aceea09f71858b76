use Rattle.config_model.proofs.Read.{packet_is_read, compile_is_read, reach_is_read}
use Rattle.config_model.proofs.laws.inputs_are_read.Goals as goal

pub returns-clause-packet : goal.returns-clause-packet
returns-clause-packet c = packet_is_read

pub returns-clause-compile : goal.returns-clause-compile
returns-clause-compile c = compile_is_read

pub returns-clause-reach : goal.returns-clause-reach
returns-clause-reach c = reach_is_read
