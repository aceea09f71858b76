use Rattle.scale_out.proofs.Choices.{chosen_iff}
use Rattle.scale_out.proofs.laws.one_member_is_chosen.Goals as goal

pub returns : goal.returns
returns c = chosen_iff
