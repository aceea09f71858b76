use Rattle.bgp_vpn.proofs.SpellingLemmas.{same_changes}
use Rattle.bgp_vpn.proofs.laws.equal_routes_make_equal_changes.Goals as goal

pub returns : goal.returns
returns c = same_changes
