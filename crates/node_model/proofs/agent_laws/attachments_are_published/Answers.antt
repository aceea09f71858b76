use Rattle.node_model.proofs.Published.{publication_is}
use Rattle.node_model.proofs.agent_laws.attachments_are_published.Goals as goal

pub returns : goal.returns
returns c = λ h i prefix label. publication_is i prefix h label
