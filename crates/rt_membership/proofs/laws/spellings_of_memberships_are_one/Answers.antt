use Rattle.rt_membership.proofs.Spelled.{trailing_passed, hop_passed}
use Rattle.rt_membership.proofs.laws.spellings_of_memberships_are_one.Goals as goal

pub returns-clause-trailing_bits : goal.returns-clause-trailing_bits
returns-clause-trailing_bits c = trailing_passed

pub returns-clause-next_hop : goal.returns-clause-next_hop
returns-clause-next_hop c = hop_passed
