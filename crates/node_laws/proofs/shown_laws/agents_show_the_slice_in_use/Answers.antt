use Rattle.node_model.specs.Agent.{slice_in_use}
use Rattle.node_laws.proofs.Shown.{labels_are, labels_rise, acls_are, acls_rise, slice_rises, routes_rise}
use Rattle.node_laws.proofs.shown_laws.agents_show_the_slice_in_use.Goals as goal

pub returns-clause-labels : goal.returns-clause-labels
returns-clause-labels c = λ h label a. labels_are (slice_in_use h) label a

pub returns-clause-labels_ascend : goal.returns-clause-labels_ascend
returns-clause-labels_ascend c = λ h. labels_rise (slice_in_use h) (slice_rises h)

pub returns-clause-acls : goal.returns-clause-acls
returns-clause-acls c = λ h k v. acls_are (slice_in_use h) k v

pub returns-clause-acls_ascend : goal.returns-clause-acls_ascend
returns-clause-acls_ascend c = λ h. acls_rise (slice_in_use h) (slice_rises h)

pub returns-clause-routes_ascend : goal.returns-clause-routes_ascend
returns-clause-routes_ascend c = routes_rise
