use Rattle.scenario_gen.proofs.NodeForms.{topology_has_form}
use Rattle.scenario_gen.proofs.WholeForm.{config_has_form, events_have_form, packets_have_form}
use Rattle.scenario_gen.proofs.making.scenario.Goals as goal

pub returns-clause-topology_form : goal.returns-clause-topology_form
returns-clause-topology_form c = rw c.in_ok-topology.ensures topology_has_form

pub returns-clause-config_form : goal.returns-clause-config_form
returns-clause-config_form c = rw c.in_ok-config.ensures (config_has_form c.args.n)

pub returns-clause-event_form : goal.returns-clause-event_form
returns-clause-event_form c = rw c.in_ok-events.ensures (events_have_form c.args.n)

pub returns-clause-packet_form : goal.returns-clause-packet_form
returns-clause-packet_form c = rw c.in_ok-all_numbered.ensures (packets_have_form c.args.n c.requires.first)
