-- What the log of a session with a peer answers, entry by entry; events stand the latest first.
--     IsHeldText events text      the lines of all that is held after events
--     Answers events n entry said after      after events the entry with the number n answers what is said, and these are
--         the events after it
--     IsLogText events n log text      what the entries of a log answer, one after the other
use Rattle.std.specs.Prelude.{◌≡◌, ℕ, ◌+◌, ◌⊎◌, Bool, true, false, List, [], ◌∷◌, ◌++◌, map, flat_map, option_map, unwrap_or}
use Rattle.std.specs.FinMap.{FinMap, get, entries}
use Rattle.ov_types.specs.declared.vpn.VpnKey.{VpnKey}
use Rattle.ov_types.specs.declared.vpn.VpnRoute.{VpnRoute}
use Rattle.bgp_wire.specs.declared.fault.WireFault.{WireFault}
use Rattle.bgp_wire.specs.Content.{OpenFields, UpdateFields}
use Rattle.bgp_wire.specs.Opens.{is_wide}
use Rattle.bgp_vpn.specs.Updates.{HasUpdateFault}
use Rattle.bgp_restart.specs.Marks.{named, kept}
use Rattle.bgp_restart.specs.Events.{Opening, RestartEvent, Opened, Closed, Expired, is_up, opening, key_order}
use Rattle.bgp_restart.specs.Keeping.{held_at, row_of, IsUpdate}
use Rattle.report.specs.Restarts.{did_line, idle_line, faulty_line, show_line, held_line}
use Rattle.decode_answers.specs.declared.entry.LogEntry.{LogEntry}
use Rattle.decode_answers.specs.declared.entry.LogEntry.TheVariants as entry
use Rattle.decode_answers.specs.OneMessage.{IsOneOpen, IsOneUpdate}

-- what an OPEN says of the session that it opens
abbrev pub opening_of : OpenFields → Opening
opening_of o = record { named = named o; kept = kept o; wide = is_wide o }

-- whether UPDATEs are read wide: as the session was opened last
abbrev pub reads_wide : List RestartEvent → Bool
reads_wide events = unwrap_or (option_map (λ o. o.wide) (opening events)) false

-- the line of each route that is held
abbrev pub row_lines : List (VpnKey × VpnRoute × Bool) → List ℕ
row_lines rows = flat_map (λ row. held_line row.0 row.1 row.2) rows

-- the lines of all that is held after events, in the order of the keys
pub record IsHeldText (events : List RestartEvent) (text : List ℕ) : Type 0 where
  pub all : FinMap key_order (VpnRoute × Bool)
  pub is_held : (k : VpnKey) → get all k ≡ held_at events k
  pub lines : text ≡ row_lines (map row_of (entries all))

-- an entry is an event
pub record IsDone (events : List RestartEvent) (n : ℕ) (event : RestartEvent) (said : List ℕ) (after : List RestartEvent) : Type 0 where
  pub line : said ≡ did_line n
  pub happened : after ≡ event ∷ events

-- an entry is passed over: it is no event
pub record IsIdle (events : List RestartEvent) (n : ℕ) (said : List ℕ) (after : List RestartEvent) : Type 0 where
  pub line : said ≡ idle_line n
  pub no_event : after ≡ events

-- an UPDATE has a fault: it is no event
pub record IsFaulty (events : List RestartEvent) (n : ℕ) (parts : UpdateFields) (said : List ℕ) (after : List RestartEvent) : Type 0 where
  pub fault : WireFault
  pub faulty : HasUpdateFault (reads_wide events) parts fault
  pub line : said ≡ faulty_line n fault.code fault.subcode
  pub no_event : after ≡ events

-- what is held is shown: that is no event
pub record IsShown (events : List RestartEvent) (n : ℕ) (said : List ℕ) (after : List RestartEvent) : Type 0 where
  pub rows : List ℕ
  pub held : IsHeldText events rows
  pub lines : said ≡ show_line n ++ rows
  pub no_event : after ≡ events

-- an OPEN, where the session is up, or down
abbrev pub AnswersOpen : Bool → List RestartEvent → ℕ → List ℕ → List ℕ → List RestartEvent → Type 0
AnswersOpen true events n octets said after = IsIdle events n said after
AnswersOpen false events n octets said after =
    (fields : OpenFields) × IsOneOpen octets fields × IsDone events n (Opened (opening_of fields)) said after

-- an UPDATE of these parts, read as the session was opened
abbrev pub AnswersParts : List RestartEvent → ℕ → UpdateFields → List ℕ → List RestartEvent → Type 0
AnswersParts events n parts said after =
    ((event : RestartEvent) × IsUpdate (reads_wide events) parts event × IsDone events n event said after)
    ⊎ IsFaulty events n parts said after

abbrev pub AnswersUpdate : Bool → List RestartEvent → ℕ → List ℕ → List ℕ → List RestartEvent → Type 0
AnswersUpdate true events n octets said after =
    (parts : UpdateFields) × IsOneUpdate octets parts × AnswersParts events n parts said after
AnswersUpdate false events n octets said after = IsIdle events n said after

abbrev pub AnswersClose : Bool → List RestartEvent → ℕ → List ℕ → List RestartEvent → Type 0
AnswersClose true events n said after = IsDone events n Closed said after
AnswersClose false events n said after = IsIdle events n said after

abbrev pub Answers : List RestartEvent → ℕ → LogEntry → List ℕ → List RestartEvent → Type 0
Answers events n (entry.Opened octets) said after = AnswersOpen (is_up events) events n octets said after
Answers events n (entry.Updated octets) said after = AnswersUpdate (is_up events) events n octets said after
Answers events n entry.Closed said after = AnswersClose (is_up events) events n said after
Answers events n entry.Expired said after = IsDone events n Expired said after
Answers events n entry.Show said after = IsShown events n said after

-- the first entry has the number n
abbrev pub IsLogText : List RestartEvent → ℕ → List LogEntry → List ℕ → Type 0
IsLogText events n [] text = text ≡ []
IsLogText events n (entry ∷ log) text =
    (said : List ℕ) × (after : List RestartEvent) × (more : List ℕ)
    × Answers events n entry said after × IsLogText after (n + 1) log more × (text ≡ said ++ more)
