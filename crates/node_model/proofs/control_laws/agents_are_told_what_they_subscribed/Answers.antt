use Rattle.node_model.proofs.Wanted.{object_from, object_to, row_from, row_to}
use Rattle.node_model.proofs.control_laws.agents_are_told_what_they_subscribed.Goals as goal

pub returns-clause-slice : goal.returns-clause-slice
returns-clause-slice c = λ h a k v. (object_from h a k v, object_to h a k v)

pub returns-clause-rows : goal.returns-clause-rows
returns-clause-rows c = λ h a i prefix hop. (row_from h a i prefix hop, row_to h a i prefix hop)
