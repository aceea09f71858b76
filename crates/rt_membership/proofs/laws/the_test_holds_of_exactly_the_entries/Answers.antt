use Rattle.rt_membership.proofs.EntryLemmas.{entries_found, entries_test}
use Rattle.rt_membership.proofs.laws.the_test_holds_of_exactly_the_entries.Goals as goal

pub returns-clause-entries : goal.returns-clause-entries
returns-clause-entries c = entries_found

pub returns-clause-no_others : goal.returns-clause-no_others
returns-clause-no_others c = entries_test
