use Rattle.packet_trace.proofs.Delivering.{ends}
use Rattle.packet_trace.proofs.laws.a_packet_is_delivered_to_a_port_of_an_agent.Goals as goal

pub returns : goal.returns
returns c = λ agents p port services h. (ends agents p port services h).somewhere
