-- Which documents write entries, and logs.
use Rattle.std.specs.Prelude.{◌≡◌, ℕ, List, [], ◌∷◌, Some, codes}
use Rattle.serde_json.specs.Data.{Data, string, array, Items, no_items, item}
use Rattle.serde_json.specs.Find.{get}
use Rattle.bgp_wire.specs.Content.{OpenFields, UpdateFields}
use Rattle.config_model.specs.EventDocuments.{one_document}
use Rattle.config_model.specs.Laws.{HasJust}
use Rattle.decode_answers.specs.declared.entry.LogEntry.{LogEntry}
use Rattle.decode_answers.specs.declared.entry.LogEntry.TheVariants.{Opened, Updated, Closed, Expired, Show}
use Rattle.decode_answers.specs.OneMessage.{IsOneOpen, IsOneUpdate}
use Rattle.decode_answers.specs.LogReading.{octets_in}

-- an object with the one member `opened`, whose text spells one OPEN
pub record WritesOpen (d : Data) (octets : List ℕ) : Type 0 where
  pub text : List ℕ
  pub fields : OpenFields
  pub is : d ≡ one_document (codes "opened") (string text)
  pub spells : octets_in text ≡ Some octets
  pub one : IsOneOpen octets fields

-- an object with the one member `update`, whose text spells one UPDATE
pub record WritesUpdate (d : Data) (octets : List ℕ) : Type 0 where
  pub text : List ℕ
  pub parts : UpdateFields
  pub is : d ≡ one_document (codes "update") (string text)
  pub spells : octets_in text ≡ Some octets
  pub one : IsOneUpdate octets parts

abbrev pub Writes : Data → LogEntry → Type 0
Writes d (Opened octets) = WritesOpen d octets
Writes d (Updated octets) = WritesUpdate d octets
Writes d Closed = d ≡ string (codes "closed")
Writes d Expired = d ≡ string (codes "expired")
Writes d Show = d ≡ string (codes "show")

-- each item writes one entry, in order
abbrev pub WritesEach : Items → List LogEntry → Type 0
WritesEach no_items [] = Unit {0}
WritesEach no_items (e ∷ log) = ⊥
WritesEach (item d ds) [] = ⊥
WritesEach (item d ds) (e ∷ log) = Writes d e × WritesEach ds log

-- an object with just the member `events`, whose items write the entries
pub record WritesLog (d : Data) (log : List LogEntry) : Type 0 where
  pub items : Items
  pub just : HasJust (codes "events" ∷ []) [] d
  pub is : get (codes "events") d ≡ Some (array items)
  pub each : WritesEach items log

-- a text that spells no octets that are one OPEN
abbrev pub SpellsNoOpen : List ℕ → Type 0
SpellsNoOpen text =
    (octets : List ℕ) (fields : OpenFields) → octets_in text ≡ Some octets → IsOneOpen octets fields → ⊥

-- a text that spells no octets that are one UPDATE
abbrev pub SpellsNoUpdate : List ℕ → Type 0
SpellsNoUpdate text =
    (octets : List ℕ) (parts : UpdateFields) → octets_in text ≡ Some octets → IsOneUpdate octets parts → ⊥
