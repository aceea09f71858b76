use Rattle.flow_state.proofs.Moments.{all_answered}
use Rattle.flow_state.proofs.laws.replays_are_answered.Goals as goal

pub returns : goal.returns
returns c = all_answered
