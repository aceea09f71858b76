use Rattle.top_call.proofs.Agreeing.{packets_agree}
use Rattle.top_call.proofs.scenario_laws.packets_agree.Goals as goal

pub returns : goal.returns
returns c = λ n first last valid. packets_agree n valid
