use Rattle.running_laws.proofs.Cut.{begins_sent, cut_down, cut_up, parts_as_whole, whole_as_parts}
use Rattle.running_laws.proofs.hearing_laws.nodes_hear_cut_octets.Goals as goal

pub returns-clause-up : goal.returns-clause-up
returns-clause-up c = cut_up

pub returns-clause-down : goal.returns-clause-down
returns-clause-down c = cut_down

pub returns-clause-sent : goal.returns-clause-sent
returns-clause-sent c = begins_sent

pub returns-clause-whole : goal.returns-clause-whole
returns-clause-whole c = whole_as_parts

pub returns-clause-parts : goal.returns-clause-parts
returns-clause-parts c = parts_as_whole
