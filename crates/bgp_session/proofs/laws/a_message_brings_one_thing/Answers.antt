use Rattle.bgp_session.proofs.InputLemmas.{brings_one}
use Rattle.bgp_session.proofs.laws.a_message_brings_one_thing.Goals as goal

pub returns : goal.returns
returns c = brings_one
