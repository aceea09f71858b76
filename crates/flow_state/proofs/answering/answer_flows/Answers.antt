use Rattle.std.proofs.Common.{rules}
use Rattle.flow_state.proofs.answering.answer_flows.Goals as goal

pub returns-in_ok-write_replay-in-Ok-clause-promise : goal.returns-in_ok-write_replay-in-Ok-clause-promise
returns-in_ok-write_replay-in-Ok-clause-promise g c = λ good. record {
  input = _;
  read = c.in-Ok.ensures.read;
  taken = search rules;
  answered = search rules;
}
