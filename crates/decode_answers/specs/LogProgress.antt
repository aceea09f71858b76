-- How far a log has come.
use Rattle.std.specs.Prelude.{◌≡◌, ℕ, ◌+◌, List, [], ◌∷◌, ◌++◌, Option}
use Rattle.ov_io.specs.Pieces.{IsOnItsWay}
use Rattle.bgp_restart.specs.Events.{RestartEvent}
use Rattle.bgp_restart.specs.Keeping.{Kept, StandsFor}
use Rattle.decode_answers.specs.declared.entry.LogEntry.{LogEntry}
use Rattle.decode_answers.specs.Logs.{Answers, IsLogText}

-- an entry was answered, so that what it answers was appended, and what is held is that of the events after it
pub record WasAnswered (events : List RestartEvent) (n : ℕ) (entry : LogEntry) (new : Kept) (before text : List ℕ) : Type 0 where
  pub said : List ℕ
  pub after : List RestartEvent
  pub answers : Answers events n entry said after
  pub stands : StandsFor after new
  pub appended : text ≡ before ++ said

-- an entry was answered, after whatever events what was held stands for
abbrev pub Steps : Kept → ℕ → LogEntry → Kept → List ℕ → List ℕ → Type 0
Steps old n entry new before text =
    (events : List RestartEvent) → StandsFor events old → WasAnswered events n entry new before text

-- what a log answers stands behind a text
pub record IsLogTextBehind (events : List RestartEvent) (n : ℕ) (log : List LogEntry) (before text : List ℕ) : Type 0 where
  pub more : List ℕ
  pub answers : IsLogText events n log more
  pub behind : text ≡ before ++ more
