use Rattle.running_laws.proofs.Sizes.{has_size}
use Rattle.running_laws.proofs.hearing_laws.messages_have_sizes.Goals as goal

pub returns : goal.returns
returns c = has_size
