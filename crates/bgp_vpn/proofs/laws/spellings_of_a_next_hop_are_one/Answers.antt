use Rattle.bgp_vpn.proofs.SpellingLemmas.{hop_read, routes_read}
use Rattle.bgp_vpn.proofs.laws.spellings_of_a_next_hop_are_one.Goals as goal

pub returns-clause-next_hop : goal.returns-clause-next_hop
returns-clause-next_hop c = hop_read

pub returns-clause-routes : goal.returns-clause-routes
returns-clause-routes c = routes_read
