use Rattle.bgp_vpn.proofs.SpellingLemmas.{label_read, distinguisher_read, trailing_passed}
use Rattle.bgp_vpn.proofs.laws.spellings_of_a_route_are_one.Goals as goal

pub returns-clause-label : goal.returns-clause-label
returns-clause-label c = label_read

pub returns-clause-distinguisher : goal.returns-clause-distinguisher
returns-clause-distinguisher c = distinguisher_read

pub returns-clause-trailing_bits : goal.returns-clause-trailing_bits
returns-clause-trailing_bits c = trailing_passed
