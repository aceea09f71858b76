use Rattle.scale_out.proofs.Choices.{taken, added}
use Rattle.scale_out.proofs.laws.choices_stay.Goals as goal

pub returns : goal.returns
returns c = record { taken = taken; added = added }
