use Rattle.running_laws.proofs.Given.{given}
use Rattle.running_laws.proofs.Octets.{notices_count_as_octets, octets_are_delivered}
use Rattle.running_laws.proofs.step_laws.octets_are_delivered.Goals as goal

pub returns-clause-octets : goal.returns-clause-octets
returns-clause-octets c = octets_are_delivered given

pub returns-clause-notices : goal.returns-clause-notices
returns-clause-notices c = notices_count_as_octets given
