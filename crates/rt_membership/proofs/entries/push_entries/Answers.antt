use Rattle.std.proofs.Common.{refl, ◌∙◌, ap}
use Rattle.rt_membership.specs.Entries.{are_entries}
use Rattle.rt_membership.specs.Lying.{fields_of, change_by}
use Rattle.rt_membership.proofs.EntryLemmas.{no_entries, some_octet, passed_over, one_more}
use Rattle.rt_membership.proofs.entries.push_entries.Goals as goal

pub returns-in_default-clause-fault : goal.returns-in_default-clause-fault
returns-in_default-clause-fault c =
    let done = c.loop-rest.invariant in
    (refl, ap are_entries done.2 ∙ passed_over done.0 _ done.1 ∙ no_entries _ (some_octet _ _ c.is_empty.ensures c.loop-rest-test.true) c.in_default.ensures.none)

pub loop-rest-preserved : goal.loop-rest-preserved
loop-rest-preserved c = one_more (change_by c.args.way) _ _ _ _ _ _ (fields_of c.in-Some.entry) c.loop-rest.invariant c.in-Some.ensures.found c.in_ok-push_entry.ensures
