use Rattle.machine_laws.proofs.Earlier.{earlier_none, either_way, later_alone}
use Rattle.machine_laws.proofs.round_laws.the_earlier_end_opens_first.Goals as goal

pub returns-clause-either : goal.returns-clause-either
returns-clause-either c = either_way

pub returns-clause-later : goal.returns-clause-later
returns-clause-later c = later_alone

pub returns-clause-earlier : goal.returns-clause-earlier
returns-clause-earlier c = earlier_none
