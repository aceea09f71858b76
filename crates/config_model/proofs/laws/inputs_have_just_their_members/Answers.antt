use Rattle.config_model.proofs.HasJust.{packet_has_just, compile_has_just, reach_has_just}
use Rattle.config_model.proofs.laws.inputs_have_just_their_members.Goals as goal

pub returns-clause-packet : goal.returns-clause-packet
returns-clause-packet c = packet_has_just

pub returns-clause-compile : goal.returns-clause-compile
returns-clause-compile c = compile_has_just

pub returns-clause-reach : goal.returns-clause-reach
returns-clause-reach c = reach_has_just
