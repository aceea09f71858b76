use Rattle.machine_laws.proofs.Rounding.{after_two, deliveries_are, round_is_one, rounds_are, rounds_in_turn, taken_of_messages, taken_of_octets, two_taken}
use Rattle.machine_laws.proofs.round_laws.rounds_are_of_messages_octets_and_rounds.Goals as goal

pub returns-clause-deliveries : goal.returns-clause-deliveries
returns-clause-deliveries c = deliveries_are

pub returns-clause-messages : goal.returns-clause-messages
returns-clause-messages c = taken_of_messages

pub returns-clause-octets : goal.returns-clause-octets
returns-clause-octets c = taken_of_octets

pub returns-clause-rounds : goal.returns-clause-rounds
returns-clause-rounds c = rounds_are

pub returns-clause-one : goal.returns-clause-one
returns-clause-one c = round_is_one

pub returns-clause-two : goal.returns-clause-two
returns-clause-two c = two_taken

pub returns-clause-in_turn : goal.returns-clause-in_turn
returns-clause-in_turn c = rounds_in_turn

pub returns-clause-in_turn_then : goal.returns-clause-in_turn_then
returns-clause-in_turn_then c = after_two
