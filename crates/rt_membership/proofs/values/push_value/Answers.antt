use Rattle.std.proofs.Common.{◌∙◌, ap}
use Rattle.std.specs.Prelude.{option_copied}
use Rattle.bgp_wire.proofs.Octets.{range_from}
use Rattle.rt_membership.specs.Memberships.{is_cut_value}
use Rattle.rt_membership.specs.Lying.{before_entries}
use Rattle.rt_membership.proofs.Grammar.{whole_value}
use Rattle.rt_membership.proofs.Reading.{on_ok}
use Rattle.rt_membership.proofs.values.push_value.Goals as goal

pub returns-clause-whole : goal.returns-clause-whole
returns-clause-whole c =
    let before = before_entries c.args.way in
    on_ok c.push_entries.result _ _
    (λ found. ap (λ v. is_cut_value before (option_copied v)) c.in-Some.is
    ∙ whole_value before c.in-Some.octets.now _ _ found.0 c.before_entries-before.ensures c.if-octets-before.false (range_from c.before_entries-before.result c.in-Some.octets.now) found.1)
    c.push_entries.ensures.entries
