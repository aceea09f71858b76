use Rattle.rt_membership.proofs.Grammar.{one_of_two, never_both, one_changes, one_fault}
use Rattle.rt_membership.proofs.laws.a_membership_says_one_thing.Goals as goal

pub returns-clause-some : goal.returns-clause-some
returns-clause-some c = one_of_two

pub returns-clause-never_both : goal.returns-clause-never_both
returns-clause-never_both c = never_both

pub returns-clause-changes : goal.returns-clause-changes
returns-clause-changes c = one_changes

pub returns-clause-fault : goal.returns-clause-fault
returns-clause-fault c = one_fault
