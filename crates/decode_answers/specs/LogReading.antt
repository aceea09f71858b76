-- The written form of the log of a session: an object with the member `events`, a list.
use Rattle.std.specs.Prelude.{ℕ, List, [], ◌∷◌, codes, Option, Some, None, Result, Ok, if◌then◌else◌}
use Rattle.std.specs.Result.{result_ok}
use Rattle.hex.specs.Hex.{decode_of}
use Rattle.serde_json.specs.Data.{Data}
use Rattle.serde_json.specs.Find.{as_str}
use Rattle.ov_types.specs.First.{same_name}
use Rattle.config_model.specs.declared.fault.DocKind.TheVariants.{Range, Unknown}
use Rattle.config_model.specs.declared.fields.Count.TheVariants.{AnyNumber}
use Rattle.config_model.specs.Paths.{member_path}
use Rattle.config_model.specs.Faults.{Fault, ◌>>=◌, refused, wanted, kept}
use Rattle.config_model.specs.Fields.{Reads, object_at, text_at, in_member, only_at, all_at}
use Rattle.config_model.specs.OneMember.{one_member_at}
use Rattle.decode_answers.specs.declared.entry.LogEntry.{LogEntry}
use Rattle.decode_answers.specs.declared.entry.LogEntry.TheVariants.{Opened, Updated, Closed, Expired, Show}
use Rattle.decode_answers.specs.OneMessage.{is_one_open, is_one_update}

-- the octets that a text spells: pairs of hexadecimal digits of either case, and nothing else
abbrev pub octets_in : List ℕ → Option (List ℕ)
octets_in text = result_ok (decode_of text)

-- a text that spells octets
unfoldable pub octets_at : Reads (List ℕ)
octets_at path d = do
  text ← text_at path d
  wanted path Range (octets_in text)

-- one OPEN
unfoldable pub opened_at : Reads LogEntry
opened_at path d = do
  octets ← octets_at path d
  kept path (is_one_open octets) (Opened octets)

-- one UPDATE
unfoldable pub updated_at : Reads LogEntry
updated_at path d = do
  octets ← octets_at path d
  kept path (is_one_update octets) (Updated octets)

-- the entry that a member names, by what the member has
unfoldable pub entry_from : List ℕ → Reads LogEntry
entry_from word path d =
    if same_name word (codes "opened") then opened_at path d
    else (if same_name word (codes "update") then updated_at path d
    else refused path Unknown)

-- the entry that a text is
abbrev pub entry_named : List ℕ → Option LogEntry
entry_named text =
    if same_name text (codes "closed") then Some Closed
    else (if same_name text (codes "expired") then Some Expired
    else (if same_name text (codes "show") then Some Show
    else None))

abbrev pub entry_of_text : List ℕ → List ℕ → Result LogEntry Fault
entry_of_text path text = wanted path Range (entry_named text)

abbrev pub entry_of : List ℕ → Data → Option (List ℕ) → Result LogEntry Fault
entry_of path d (Some text) = entry_of_text path text
entry_of path d None = one_member_at path d >>= λ m. entry_from m.0 (member_path path m.0) m.1

-- a text, or an object with one member
unfoldable pub entry_at : Reads LogEntry
entry_at path d = entry_of path d (as_str d)

-- the entries of a log, in order
unfoldable pub log_at : Reads (List LogEntry)
log_at path d = do
  members ← object_at path d
  log ← in_member (all_at entry_at AnyNumber) path (codes "events") d
  done ← only_at path (codes "events" ∷ []) members
  Ok log
