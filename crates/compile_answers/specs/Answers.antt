-- What is answered to an input: what it is found to be, and the text that is written.
use Rattle.std.specs.Prelude.{◌≡◌, ℕ, List, [], ◌∷◌, ◌++◌, codes, Option, Some, None, Result, Ok, Err, ⊤}
use Rattle.std.specs.Io.KnownBytes.{Appends}
use Rattle.serde_json.specs.Data.{Data}
use Rattle.config_model.specs.declared.input.CompileInput.{CompileInput}
use Rattle.config_model.specs.declared.fault.ReadRefusal.{ReadRefusal}
use Rattle.config_model.specs.declared.fault.ReadRefusal.TheVariants as read
use Rattle.config_model.specs.Faults.{Fault, fault_of}
use Rattle.config_model.specs.Input.{compile_at, reach_at}
use Rattle.config_check.specs.Checked.{Checked}
use Rattle.config_check.specs.declared.refusal.Refusal.{Refusal}
use Rattle.config_check.specs.Rules.{first_broken}
use Rattle.report.specs.Refusals.{doc_fault_line, refused_line}
use Rattle.scale_out.specs.Reading.{scale_at}
use Rattle.compile_answers.specs.declared.reaching.AskedPackets.{AskedPackets}
use Rattle.compile_answers.specs.declared.scaling.AskedVisits.{AskedVisits}
use Rattle.compile_answers.specs.declared.unfit.Reception.{Reception}
use Rattle.compile_answers.specs.declared.unfit.Reception.TheVariants.{Good, NotJson, BadDocument, Refused}
use Rattle.compile_answers.specs.declared.unfit.Unfit.{Unfit}
use Rattle.compile_answers.specs.declared.unfit.Unfit.TheVariants as unfit
use Rattle.ov_io.specs.Json.{json_of}
use Rattle.compile_answers.specs.Lines.{compile_text}
use Rattle.compile_answers.specs.Outcomes.{reach_text}
use Rattle.compile_answers.specs.Spreads.{scale_text}

-- what an input is found to be, and the text that is written of it
pub record DocumentAnswer : Type 0 where
  pub verdict : Reception
  pub text : List ℕ

abbrev pub answer_good : List ℕ → DocumentAnswer
answer_good text = record { verdict = Good; text = text }

abbrev pub answer_not_json : DocumentAnswer
answer_not_json = record { verdict = NotJson; text = codes "not json" ++ (10 ∷ []) }

abbrev pub answer_bad : Fault → DocumentAnswer
answer_bad f = record { verdict = BadDocument; text = doc_fault_line f }

abbrev pub answer_refused : Refusal → DocumentAnswer
answer_refused r = record { verdict = Refused; text = refused_line r }

-- the answer where a configuration breaks a rule, or none
abbrev pub answer_checked : Option Refusal → List ℕ → DocumentAnswer
answer_checked (Some r) text = answer_refused r
answer_checked None text = answer_good text

-- what is not fit is answered with its one line, and nothing is said of want of memory
abbrev pub IsAnswered : Unfit → DocumentAnswer → Type 0
IsAnswered unfit.NotJson answer = answer ≡ answer_not_json
IsAnswered (unfit.BadDocument f) answer = answer ≡ answer_bad (fault_of f)
IsAnswered (unfit.Refused r) answer = answer ≡ answer_refused r
IsAnswered unfit.NoMemory answer = ⊤

-- why nothing was read is why it is not fit
abbrev pub unfit_by : ReadRefusal → Unfit
unfit_by (read.Doc f) = unfit.BadDocument f
unfit_by read.NoMemory = unfit.NoMemory

-- the verdict of an answer was given, and its text taken whole
pub record WasGiven (answer : DocumentAnswer) (verdict : Reception) (old new : Option (List ℕ)) : Type 0 where
  pub is : verdict ≡ answer.verdict
  pub taken : Appends old new answer.text

-- octets are a document of which this is so
pub record AreDocument (octets : List ℕ) (Is : Data → Type 0) : Type 0 where
  pub value : Data
  pub json : json_of octets ≡ Some value
  pub is : Is value

-- a valid configuration, with its topology, as it is read
abbrev pub input_of : Checked → CompileInput
input_of x = record { topology = x.topology; config = x.config }

-- octets that are a document of this topology and this configuration
abbrev pub AreReadAs : List ℕ → CompileInput → Type 0
AreReadAs octets p = AreDocument octets (λ d. compile_at [] d ≡ Ok p)

-- what is taken of a document, or what is answered where it is not fit
abbrev pub Taken : Type 0 → Type 0
Taken A = Result A DocumentAnswer

-- what was read is taken so, and of what was not its first fault is answered
abbrev pub taken_as : {A B : Type 0} → (A → Taken B) → Result A Fault → Taken B
taken_as take (Ok x) = take x
taken_as take (Err f) = Err (answer_bad f)

-- what breaks no rule is taken
abbrev pub taken_unless : {A : Type 0} → Option Refusal → A → Taken A
taken_unless None x = Ok x
taken_unless (Some r) x = Err (answer_refused r)

-- what is made of a topology and a configuration is taken where these are valid
abbrev pub taken_valid : {A : Type 0} → (Checked → A) → CompileInput → Taken A
taken_valid make p =
    taken_unless (first_broken p.topology p.config) (make (record { topology = p.topology; config = p.config }))

-- what is taken of a document is what is taken of its value
abbrev pub taken_from : {A : Type 0} → (Data → Taken A) → Option Data → Taken A
taken_from take None = Err answer_not_json
taken_from take (Some d) = take d

-- what is not fit is answered with its one line; of what is taken only memory can be wanting
abbrev pub IsUnfit : {A : Type 0} → Unfit → Taken A → Type 0
IsUnfit u (Ok x) = u ≡ unfit.NoMemory
IsUnfit u (Err answer) = IsAnswered u answer

-- the answer has the lines of what is taken
abbrev pub answer_by : {A : Type 0} → (A → List ℕ) → Taken A → DocumentAnswer
answer_by text (Ok x) = answer_good (text x)
answer_by text (Err answer) = answer

-- `compile` takes a valid configuration
unfoldable pub compile_taken : Data → Taken Checked
compile_taken d = taken_as (taken_valid (λ x. x)) (compile_at [] d)

-- what `compile` answers to a document
unfoldable pub compile_answer : List ℕ → DocumentAnswer
compile_answer octets = answer_by compile_text (taken_from compile_taken (json_of octets))

-- `reach` takes packets too
unfoldable pub reach_taken : Data → Taken AskedPackets
reach_taken d = taken_as (λ r. taken_valid (λ x. record { valid = x; packets = r.packets }) r.input) (reach_at [] d)

-- what `reach` answers to a document
unfoldable pub reach_answer : List ℕ → DocumentAnswer
reach_answer octets = answer_by (λ q. reach_text q.valid q.packets) (taken_from reach_taken (json_of octets))

-- `scale` takes packets, and groups of members
unfoldable pub scale_taken : Data → Taken AskedVisits
scale_taken d = taken_as
    (λ r. taken_valid (λ x. record { valid = x; groups = r.groups; packets = r.packets }) r.input) (scale_at [] d)

-- what `scale` answers to a document
unfoldable pub scale_answer : List ℕ → DocumentAnswer
scale_answer octets = answer_by (λ q. scale_text q.valid q.groups q.packets) (taken_from scale_taken (json_of octets))

-- the answer to a document by what is answered to its value
abbrev pub of_json : (Data → DocumentAnswer) → Option Data → DocumentAnswer
of_json answer None = answer_not_json
of_json answer (Some d) = answer d
