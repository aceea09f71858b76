use Rattle.bgp_vpn.specs.Updates.{parts_of}
use Rattle.rt_membership.proofs.Reading.{form, finds, finds_fault, if_ok}
use Rattle.rt_membership.proofs.read.read_membership.Goals as goal

pub returns-clause-form : goal.returns-clause-form
returns-clause-form c = if_ok c.read_changes.result _ _ (λ deltas. form c.args.wide (parts_of c.args.part.now) deltas.items) c.read_changes.ensures.changes

pub returns-clause-every_change : goal.returns-clause-every_change
returns-clause-every_change c =
    finds (λ found. found.items) c.read_changes.result c.args.wide (parts_of c.args.part.now) c.read_changes.ensures.changes c.read_changes.ensures.fault

pub returns-clause-every_fault : goal.returns-clause-every_fault
returns-clause-every_fault c =
    finds_fault (λ found. found.items) c.read_changes.result c.args.wide (parts_of c.args.part.now) c.read_changes.ensures.changes c.read_changes.ensures.fault
