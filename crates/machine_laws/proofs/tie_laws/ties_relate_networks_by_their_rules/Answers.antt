use Rattle.machine_laws.proofs.Relating.{denied_apart, led_related, passed_related, ports_stand, related_by_rules}
use Rattle.machine_laws.proofs.tie_laws.ties_relate_networks_by_their_rules.Goals as goal

pub returns-clause-ports : goal.returns-clause-ports
returns-clause-ports c = ports_stand

pub returns-clause-related : goal.returns-clause-related
returns-clause-related c = related_by_rules

pub returns-clause-denied : goal.returns-clause-denied
returns-clause-denied c = denied_apart

pub returns-clause-passed : goal.returns-clause-passed
returns-clause-passed c = passed_related

pub returns-clause-led : goal.returns-clause-led
returns-clause-led c = led_related
