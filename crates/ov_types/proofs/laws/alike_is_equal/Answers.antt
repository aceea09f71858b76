use Rattle.ov_types.proofs.Values.{objects, acl_rules, target_lists, routes, agents}
use Rattle.ov_types.proofs.laws.alike_is_equal.Goals as goal

pub returns-clause-objects : goal.returns-clause-objects
returns-clause-objects c = objects

pub returns-clause-acl_rules : goal.returns-clause-acl_rules
returns-clause-acl_rules c = acl_rules

pub returns-clause-targets : goal.returns-clause-targets
returns-clause-targets c = target_lists

pub returns-clause-routes : goal.returns-clause-routes
returns-clause-routes c = routes

pub returns-clause-agents : goal.returns-clause-agents
returns-clause-agents c = agents
