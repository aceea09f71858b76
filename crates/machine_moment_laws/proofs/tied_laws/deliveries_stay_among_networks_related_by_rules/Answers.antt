use Rattle.machine_moment_laws.proofs.SchedulePlaced.{related}
use Rattle.machine_moment_laws.proofs.tied_laws.deliveries_stay_among_networks_related_by_rules.Goals as goal

pub returns : goal.returns
returns c = related
