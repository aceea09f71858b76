-- Each command has a text for each input.
use Rattle.std.proofs.Common.{◌≡◌, ℕ, List, Option, Some, None, refl}
use Rattle.ov_io.specs.Pieces.{TookFrontOf}
use Rattle.ov_io.proofs.PieceLemmas.{took_nothing}
use Rattle.top_call.specs.ConstraintAnswers.{constrain_answer}
use Rattle.compile_answers.specs.Answers.{compile_answer, reach_answer, scale_answer}
use Rattle.flow_state.specs.Answers.{flows_answer}
use Rattle.decode_answers.specs.Decoding.{spelled}
use Rattle.decode_answers.proofs.Spelled.{text_spelled}
use Rattle.decode_answers.proofs.LogWritten.{some_written}
use Rattle.top_call.specs.ScenarioAnswers.{gen_answer}
use Rattle.top_call.specs.RunAnswers.{run_answer}
use Rattle.top_call.specs.declared.command.Command.{Command}
use Rattle.top_call.specs.declared.command.Command.TheVariants.{Compile, Reach, Scale, Constrain, Graceful, Flows, Run, Decode, Gen}
use Rattle.top_call.specs.Answers.{Writes}
use Rattle.top_call.specs.Runs.{OfInput, OfOctets, input_to}

-- there is a text that a command writes of an input
pub some_text : (command : Command) (octets : List ℕ) → (text : List ℕ) × Writes command octets text
unfolding Writes
some_text Compile octets = ((compile_answer octets).text, refl)
some_text Reach octets = ((reach_answer octets).text, refl)
some_text Scale octets = ((scale_answer octets).text, refl)
some_text Constrain octets = ((constrain_answer octets).text, refl)
some_text Graceful octets = some_written octets
some_text Flows octets = ((flows_answer octets).text, refl)
some_text Run octets = ((run_answer octets).text, refl)
some_text Decode octets = text_spelled octets (spelled octets) refl
some_text (Gen n) octets = ((gen_answer n).text, refl)

-- nothing is a front of it
text_of_octets : (command : Command) (old : Option (List ℕ)) (o : Option (List ℕ))
    → OfOctets o (λ octets. TookFrontOf (Writes command octets) old old)
text_of_octets command old None = tt
text_of_octets command old (Some octets) =
    let some = some_text command octets in
    record { text = some.0; is = some.1; taken = took_nothing old some.0 }

pub nothing_written : (o : Option Command) (held : Option (List ℕ)) (command : Command) (old : Option (List ℕ)) → o ≡ Some command
    → OfInput o held (λ c octets. TookFrontOf (Writes c octets) old old)
nothing_written None held command old e = absurd cc
nothing_written (Some c) held command old e = text_of_octets c old (input_to c held)
