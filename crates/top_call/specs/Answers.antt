-- What is answered to a command and its input.
use Rattle.std.specs.Prelude.{◌≡◌, ℕ, List}
use Rattle.compile_answers.specs.declared.unfit.Reception.{Reception}
use Rattle.compile_answers.specs.Answers.{compile_answer, reach_answer, scale_answer}
use Rattle.top_call.specs.ConstraintAnswers.{constrain_answer}
use Rattle.flow_state.specs.Answers.{flows_answer}
use Rattle.decode_answers.specs.Decoding.{WritesSpelled, decode_verdict, spelled}
use Rattle.decode_answers.specs.LogAnswers.{WritesLog, graceful_verdict, log_in}
use Rattle.top_call.specs.ScenarioAnswers.{gen_answer}
use Rattle.top_call.specs.RunAnswers.{run_answer}
use Rattle.top_call.specs.declared.command.Command.{Command}
use Rattle.top_call.specs.declared.command.Command.TheVariants.{Compile, Reach, Scale, Constrain, Graceful, Flows, Run, Decode, Gen}

-- what an input is found to be
unfoldable pub verdict_of : Command → List ℕ → Reception
verdict_of Compile octets = (compile_answer octets).verdict
verdict_of Reach octets = (reach_answer octets).verdict
verdict_of Scale octets = (scale_answer octets).verdict
verdict_of Constrain octets = (constrain_answer octets).verdict
verdict_of Graceful octets = graceful_verdict (log_in octets)
verdict_of Flows octets = (flows_answer octets).verdict
verdict_of Run octets = (run_answer octets).verdict
verdict_of Decode octets = decode_verdict (spelled octets)
verdict_of (Gen n) octets = (gen_answer n).verdict

-- the text is what a command writes of an input
unfoldable pub Writes : Command → List ℕ → List ℕ → Type 0
Writes Compile octets text = text ≡ (compile_answer octets).text
Writes Reach octets text = text ≡ (reach_answer octets).text
Writes Scale octets text = text ≡ (scale_answer octets).text
Writes Constrain octets text = text ≡ (constrain_answer octets).text
Writes Graceful octets text = WritesLog (log_in octets) text
Writes Flows octets text = text ≡ (flows_answer octets).text
Writes Run octets text = text ≡ (run_answer octets).text
Writes Decode octets text = WritesSpelled (spelled octets) text
Writes (Gen n) octets text = text ≡ (gen_answer n).text
