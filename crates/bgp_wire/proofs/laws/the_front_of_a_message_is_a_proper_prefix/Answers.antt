use Rattle.bgp_wire.proofs.Readings.{front_is_proper, proper_prefix_is_short}
use Rattle.bgp_wire.proofs.laws.the_front_of_a_message_is_a_proper_prefix.Goals as goal

pub returns : goal.returns
returns c = record { front = front_is_proper; short = proper_prefix_is_short }
