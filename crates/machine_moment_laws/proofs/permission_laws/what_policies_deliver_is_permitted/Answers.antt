use Rattle.machine_moment_laws.proofs.Premises.{delivers_permitted, keeps_services, permitted_delivers}
use Rattle.machine_moment_laws.proofs.permission_laws.what_policies_deliver_is_permitted.Goals as goal

pub returns-clause-services : goal.returns-clause-services
returns-clause-services c = keeps_services

pub returns-clause-delivered : goal.returns-clause-delivered
returns-clause-delivered c = delivers_permitted

pub returns-clause-permitted : goal.returns-clause-permitted
returns-clause-permitted c = permitted_delivers
