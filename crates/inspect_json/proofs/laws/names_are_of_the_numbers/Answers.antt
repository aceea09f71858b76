use Rattle.inspect_json.proofs.Named.{policy_named, port_named, service_named}
use Rattle.inspect_json.proofs.laws.names_are_of_the_numbers.Goals as goal

pub returns-clause-policy : goal.returns-clause-policy
returns-clause-policy g = policy_named

pub returns-clause-service : goal.returns-clause-service
returns-clause-service g = service_named

pub returns-clause-port : goal.returns-clause-port
returns-clause-port g = port_named
