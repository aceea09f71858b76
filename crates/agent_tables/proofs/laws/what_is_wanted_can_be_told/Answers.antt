use Rattle.agent_tables.proofs.Telling.{can_be_told}
use Rattle.agent_tables.proofs.laws.what_is_wanted_can_be_told.Goals as goal

pub returns : goal.returns
returns c = can_be_told
