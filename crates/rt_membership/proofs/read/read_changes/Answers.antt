use Rattle.rt_membership.proofs.Reading.{if_ok, if_wire}
use Rattle.rt_membership.proofs.read.read_changes.Goals as goal

pub returns-clause-changes : goal.returns-clause-changes
returns-clause-changes c =
    let passes = c.in_ok-check_update.ensures.ok in
    if_ok c.read_checked_membership.result _ _ (λ deltas told. told c.args.wide passes.0 passes.1) c.read_checked_membership.ensures.changes

pub returns-clause-fault : goal.returns-clause-fault
returns-clause-fault c =
    let passes = c.in_ok-check_update.ensures.ok in
    if_wire c.read_checked_membership.result _ _ (λ f told. told c.args.wide passes.0 passes.1) c.read_checked_membership.ensures.fault
