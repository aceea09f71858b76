-- What `constrain` answers to an input.
use Rattle.std.specs.Prelude.{ℕ, List}
use Rattle.compile_answers.specs.Answers.{DocumentAnswer, answer_by, compile_taken, taken_from}
use Rattle.ov_io.specs.Json.{json_of}
use Rattle.top_call.specs.Constraint.{constrain_text}

-- what `constrain` answers to a document, of which it takes what `compile` takes
unfoldable pub constrain_answer : List ℕ → DocumentAnswer
constrain_answer octets = answer_by constrain_text (taken_from compile_taken (json_of octets))
