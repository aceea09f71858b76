-- What `flows` answers to an input, and what it promises of its answers.
use Rattle.std.specs.Prelude.{◌≡◌, ◌<◌, ℕ, List, [], Option, Ok, IsTrue}
use Rattle.std.specs.List.{list_all}
use Rattle.std.specs.Io.KnownBytes.{Appends}
use Rattle.serde_json.specs.Data.{Data}
use Rattle.config_check.specs.Checked.{Checked}
use Rattle.compile_answers.specs.Answers.{AreDocument, DocumentAnswer, Taken, answer_by, taken_as, taken_from, taken_valid}
use Rattle.ov_io.specs.Json.{json_of}
use Rattle.flow_state.specs.declared.step.FlowsInput.{FlowsInput}
use Rattle.flow_state.specs.declared.step.FlowStep.{FlowStep}
use Rattle.flow_state.specs.Steps.{flows_at, has_step_form}
use Rattle.flow_state.specs.Laws.{AreAnswered}
use Rattle.flow_state.specs.Replay.{answers, at_start}
use Rattle.flow_state.specs.declared.answering.AskedReplay.{AskedReplay}
use Rattle.flow_state.specs.Lines.{flows_text}

-- `flows` takes a capacity and steps too
unfoldable pub flows_taken : Data → Taken AskedReplay
flows_taken d = taken_as
    (λ r. taken_valid (λ x. record { valid = x; capacity = r.capacity; steps = r.steps }) r.input) (flows_at [] d)

-- what `flows` answers to a document
unfoldable pub flows_answer : List ℕ → DocumentAnswer
flows_answer octets = answer_by (λ q. flows_text q.valid q.capacity q.steps) (taken_from flows_taken (json_of octets))

-- there is room for a flow, and each step has the written form
pub record FitsReplay (asked : AskedReplay) : Type 0 where
  pub room : 0 < asked.capacity
  pub steps : IsTrue (list_all has_step_form asked.steps)

-- the opening configuration of an input, with its topology
abbrev pub opening_of : FlowsInput → Checked
opening_of r = record { topology = r.input.topology; config = r.input.config }

-- octets that are a document which `flows` reads so
abbrev pub AreReadAs : List ℕ → FlowsInput → Type 0
AreReadAs octets r = AreDocument octets (λ d. flows_at [] d ≡ Ok r)

-- an input with this opening configuration, this capacity and these steps
abbrev pub input_of : Checked → ℕ → List FlowStep → FlowsInput
input_of x capacity steps =
    record { input = record { topology = x.topology; config = x.config }; capacity = capacity; steps = steps }

-- what was taken is the lines of what the steps of a document answer, and each step is answered in the words of a user
pub record TookReplies (octets : List ℕ) (old new : Option (List ℕ)) : Type 0 where
  pub input : FlowsInput
  pub read : AreReadAs octets input
  pub taken : Appends old new (flows_text (opening_of input) input.capacity input.steps)
  pub answered : AreAnswered input.capacity (at_start (opening_of input)) input.steps
      (answers input.capacity input.steps (at_start (opening_of input)))
