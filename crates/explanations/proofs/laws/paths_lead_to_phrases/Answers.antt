use Rattle.explanations.proofs.Leading.{paths_lead_to_phrases}
use Rattle.explanations.proofs.laws.paths_lead_to_phrases.Goals as goal

pub returns : goal.returns
returns c = paths_lead_to_phrases
