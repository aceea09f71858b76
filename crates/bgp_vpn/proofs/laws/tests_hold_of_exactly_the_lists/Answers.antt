use Rattle.bgp_vpn.proofs.GrammarLemmas.{prefixes_found, prefixes_test, segments_found, segments_test}
use Rattle.bgp_vpn.proofs.laws.tests_hold_of_exactly_the_lists.Goals as goal

pub returns-clause-prefixes : goal.returns-clause-prefixes
returns-clause-prefixes c = prefixes_found

pub returns-clause-no_other_prefixes : goal.returns-clause-no_other_prefixes
returns-clause-no_other_prefixes c = prefixes_test

pub returns-clause-segments : goal.returns-clause-segments
returns-clause-segments c = segments_found

pub returns-clause-no_other_segments : goal.returns-clause-no_other_segments
returns-clause-no_other_segments c = segments_test
