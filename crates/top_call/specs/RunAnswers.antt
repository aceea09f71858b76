-- What is answered to a schedule.
use Rattle.std.specs.Prelude.{ℕ, List, []}
use Rattle.serde_json.specs.Data.{Data}
use Rattle.config_model.specs.Event.{run_at}
use Rattle.compile_answers.specs.Answers.{DocumentAnswer, Taken, answer_by, taken_as, taken_from, taken_valid}
use Rattle.ov_io.specs.Json.{json_of}
use Rattle.top_call.specs.declared.running.Schedule.{Schedule}
use Rattle.top_call.specs.Schedules.{run_text}

-- `run` takes events too
unfoldable pub run_taken : Data → Taken Schedule
run_taken d = taken_as (λ r. taken_valid (λ x. record { valid = x; events = r.events }) r.input) (run_at [] d)

-- what `run` answers to a document
unfoldable pub run_answer : List ℕ → DocumentAnswer
run_answer octets = answer_by (λ s. run_text s.valid s.events) (taken_from run_taken (json_of octets))
