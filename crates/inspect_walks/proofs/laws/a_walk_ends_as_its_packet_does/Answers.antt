use Rattle.inspect_walks.proofs.Law.{compiled_is_walk}
use Rattle.inspect_walks.proofs.laws.a_walk_ends_as_its_packet_does.Goals as goal

pub returns : goal.returns
returns g = compiled_is_walk
