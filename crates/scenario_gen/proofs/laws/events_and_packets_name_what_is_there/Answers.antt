use Rattle.scenario_gen.proofs.There.{events_name_what_is, packets_leave_ports}
use Rattle.scenario_gen.proofs.laws.events_and_packets_name_what_is_there.Goals as goal

pub returns-clause-events : goal.returns-clause-events
returns-clause-events c = events_name_what_is

pub returns-clause-packets : goal.returns-clause-packets
returns-clause-packets c = packets_leave_ports
