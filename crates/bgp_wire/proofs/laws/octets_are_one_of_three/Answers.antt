use Rattle.bgp_wire.proofs.Readings.{read, never_message_and_prefix, never_message_and_fault}
use Rattle.bgp_wire.proofs.laws.octets_are_one_of_three.Goals as goal

pub returns-clause-one : goal.returns-clause-one
returns-clause-one c = read

pub returns-clause-message_or_prefix : goal.returns-clause-message_or_prefix
returns-clause-message_or_prefix c = never_message_and_prefix

pub returns-clause-message_or_fault : goal.returns-clause-message_or_fault
returns-clause-message_or_fault c = never_message_and_fault
