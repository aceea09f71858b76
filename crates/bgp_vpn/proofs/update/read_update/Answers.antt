use Rattle.std.proofs.Common.{◌∙◌}
use Rattle.bgp_vpn.proofs.update.read_update.Goals as goal

pub returns-in_err-changes-in-Ok-clause-every_fault : goal.returns-in_err-changes-in-Ok-clause-every_fault
returns-in_err-changes-in-Ok-clause-every_fault c = λ f has. let e = c.in-Ok.ensures.every_fault f has in absurd cc

pub returns-in_ok-changes-in-Ok-clause-every_change : goal.returns-in_ok-changes-in-Ok-clause-every_change
returns-in_ok-changes-in-Ok-clause-every_change c = λ deltas makes.
    c.in_ok-changes-in-Ok.ensures ∙ c.in-Ok.ensures.every_change deltas makes

pub returns-in_ok-changes-in-Ok-clause-every_fault : goal.returns-in_ok-changes-in-Ok-clause-every_fault
returns-in_ok-changes-in-Ok-clause-every_fault c = λ f has. let e = c.in-Ok.ensures.every_fault f has in absurd cc

pub returns-in-Err-clause-every_fault : goal.returns-in-Err-clause-every_fault
returns-in-Err-clause-every_fault c = λ f has. let e = c.in-Err.ensures.every_fault f has in cc
