use Rattle.bgp_vpn.specs.Updates.{parts_of}
use Rattle.rt_membership.proofs.Reading.{cuts, if_ok, if_wire, tells}
use Rattle.rt_membership.proofs.read.read_checked_membership.Goals as goal

pub returns-clause-changes : goal.returns-clause-changes
returns-clause-changes c =
    if_ok c.changes_in.result _ _ (λ deltas told wide routes is. tells wide (parts_of c.args.part.now) routes deltas.items is told) c.changes_in.ensures.changes

pub returns-clause-fault : goal.returns-clause-fault
returns-clause-fault c =
    if_wire c.changes_in.result _ _ (λ f cut wide routes is. cuts wide (parts_of c.args.part.now) routes f is cut) c.changes_in.ensures.fault
