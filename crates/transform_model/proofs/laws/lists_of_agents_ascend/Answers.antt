use Rattle.transform_model.proofs.Lemmas.{labels_ascend, access_lists_ascend, routes_ascend}
use Rattle.transform_model.proofs.laws.lists_of_agents_ascend.Goals as goal

pub returns-clause-labels : goal.returns-clause-labels
returns-clause-labels c = labels_ascend

pub returns-clause-acls : goal.returns-clause-acls
returns-clause-acls c = access_lists_ascend

pub returns-clause-routes : goal.returns-clause-routes
returns-clause-routes c = routes_ascend
