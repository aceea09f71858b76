use Rattle.agent_tables.proofs.Listed.{wanted_same}
use Rattle.agent_tables.proofs.laws.an_access_list_is_not_published.Goals as goal

pub returns : goal.returns
returns c = wanted_same
