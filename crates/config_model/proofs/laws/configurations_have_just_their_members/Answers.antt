use Rattle.config_model.proofs.HasJust.{config_has_just, network_has_just, port_has_just, policy_has_just, rule_has_just, service_has_just, chain_has_just}
use Rattle.config_model.proofs.laws.configurations_have_just_their_members.Goals as goal

pub returns-clause-config : goal.returns-clause-config
returns-clause-config c = config_has_just

pub returns-clause-network : goal.returns-clause-network
returns-clause-network c = network_has_just

pub returns-clause-port : goal.returns-clause-port
returns-clause-port c = port_has_just

pub returns-clause-policy : goal.returns-clause-policy
returns-clause-policy c = policy_has_just

pub returns-clause-rule : goal.returns-clause-rule
returns-clause-rule c = rule_has_just

pub returns-clause-service : goal.returns-clause-service
returns-clause-service c = service_has_just

pub returns-clause-chain : goal.returns-clause-chain
returns-clause-chain c = chain_has_just
