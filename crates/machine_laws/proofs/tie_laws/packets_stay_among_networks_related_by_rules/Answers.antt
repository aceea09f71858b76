use Rattle.machine_laws.proofs.Relating.{among_related}
use Rattle.machine_laws.proofs.tie_laws.packets_stay_among_networks_related_by_rules.Goals as goal

pub returns : goal.returns
returns c = among_related
