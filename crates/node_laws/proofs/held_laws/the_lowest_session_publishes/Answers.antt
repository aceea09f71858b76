use Rattle.node_laws.proofs.Published.{lowest_publishes}
use Rattle.node_laws.proofs.held_laws.the_lowest_session_publishes.Goals as goal

pub returns : goal.returns
returns c = λ h listed numbered a i prefix label. lowest_publishes h a i prefix label listed numbered
