-- What is read has its form.
use Rattle.std.proofs.Common.{◌≡◌, ℕ, List, [], ◌∷◌, Some, Result, Ok, Err}
use Rattle.std.specs.Prelude.{IfOk}
use Rattle.std.specs.List.{AllByRecursion}
use Rattle.std.specs.Result.{result_ok}
use Rattle.hex.specs.Hex.{decode_of}
use Rattle.hex.specs.declared.error.FromHexError.{FromHexError}
use Rattle.hex.proofs.HexLemmas.{decode_of-ok}
use Rattle.serde_json.specs.Data.{Data, Items, no_items, item}
use Rattle.bgp_wire.specs.Messages.{AreOctets}
use Rattle.config_model.specs.declared.fault.ReadRefusal.{ReadRefusal}
use Rattle.config_model.specs.Faults.{Gives}
use Rattle.decode_answers.specs.declared.entry.LogEntry.{LogEntry}
use Rattle.decode_answers.specs.declared.entry.LogEntry.TheVariants.{Opened, Updated, Closed, Expired, Show}
use Rattle.decode_answers.specs.Entries.{HasEntryForm}
use Rattle.decode_answers.specs.LogReading.{octets_in, log_at}
use Rattle.decode_answers.specs.LogWriting.{Writes, WritesEach}
use Rattle.decode_answers.proofs.EntriesWritten.{log_written}

decoded : (r : Result (List ℕ) FromHexError) (octets : List ℕ) → result_ok r ≡ Some octets → r ≡ Ok octets
decoded (Ok x) octets e = cc
decoded (Err f) octets e = absurd cc

-- what digits spell are octets
are_octets : (text octets : List ℕ) → octets_in text ≡ Some octets → AreOctets octets
are_octets text octets e = (decode_of-ok text octets (decoded (decode_of text) octets e)).3

-- what is written has its form
entry_form : (d : Data) (e : LogEntry) → Writes d e → HasEntryForm e
entry_form d (Opened octets) w = (are_octets w.text octets w.spells, (w.fields, w.one))
entry_form d (Updated octets) w = (are_octets w.text octets w.spells, (w.parts, w.one))
entry_form d Closed w = tt
entry_form d Expired w = tt
entry_form d Show w = tt

each_form : (ds : Items) (log : List LogEntry) → WritesEach ds log → AllByRecursion HasEntryForm log
each_form no_items [] w = tt
each_form no_items (e ∷ log) w = absurd w
each_form (item d ds) [] w = absurd w
each_form (item d ds) (e ∷ log) w = (entry_form d e w.0, each_form ds log w.1)

-- each entry of a log that is read has the form of one
pub log_form : (path : List ℕ) (d : Data) (log : List LogEntry) → log_at path d ≡ Ok log → AllByRecursion HasEntryForm log
log_form path d log h = let w = log_written path d log h in each_form w.items log w.each

-- what was read, as it was seen
pub read_form : (d : Data) (r : Result (List LogEntry) ReadRefusal) → Gives (λ log. log) r (log_at [] d) → IfOk r (λ log. AllByRecursion HasEntryForm log)
read_form d (Ok log) gives = log_form [] d log gives
read_form d (Err e) gives = tt
