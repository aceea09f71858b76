-- What `graceful` answers to an input.
use Rattle.std.specs.Prelude.{◌≡◌, ℕ, List, [], Option, Ok, Err}
use Rattle.serde_json.specs.Data.{Data}
use Rattle.compile_answers.specs.declared.unfit.Reception.{Reception}
use Rattle.compile_answers.specs.declared.unfit.Reception.TheVariants.{Good}
use Rattle.compile_answers.specs.Answers.{AreDocument, Taken, taken_as, taken_from}
use Rattle.ov_io.specs.Pieces.{TookText}
use Rattle.ov_io.specs.Json.{json_of}
use Rattle.decode_answers.specs.declared.log_answer.Log.{Log}
use Rattle.decode_answers.specs.declared.entry.LogEntry.{LogEntry}
use Rattle.decode_answers.specs.LogReading.{log_at}
use Rattle.decode_answers.specs.Logs.{IsLogText}

-- `graceful` takes a log
unfoldable pub log_taken : Data → Taken Log
log_taken d = taken_as (λ entries. Ok (record { entries = entries })) (log_at [] d)

-- the log that an input is, or the answer where it is none
unfoldable pub log_in : List ℕ → Taken Log
log_in octets = taken_from log_taken (json_of octets)

-- what an input is found to be
abbrev pub graceful_verdict : Taken Log → Reception
graceful_verdict (Ok log) = Good
graceful_verdict (Err answer) = answer.verdict

-- `graceful` writes what the entries of a log answer, of which the first has the number 1, and nothing came before it
abbrev pub WritesLog : Taken Log → List ℕ → Type 0
WritesLog (Ok log) text = IsLogText [] 1 log.entries text
WritesLog (Err answer) text = text ≡ answer.text

-- octets are a document that writes this log
abbrev pub AreLog : List ℕ → List LogEntry → Type 0
AreLog octets log = AreDocument octets (λ d. log_at [] d ≡ Ok log)

-- what was taken is what the entries of the log answer that octets are
pub record TookLog (octets : List ℕ) (old new : Option (List ℕ)) : Type 0 where
  pub log : List LogEntry
  pub are : AreLog octets log
  pub taken : TookText (IsLogText [] 1 log) old new
