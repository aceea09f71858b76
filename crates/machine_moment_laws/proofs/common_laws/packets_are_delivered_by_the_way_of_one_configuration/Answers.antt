use Rattle.machine_moment_laws.proofs.ByOne.{delivered_by_one}
use Rattle.machine_moment_laws.proofs.common_laws.packets_are_delivered_by_the_way_of_one_configuration.Goals as goal

pub returns : goal.returns
returns c = delivered_by_one
