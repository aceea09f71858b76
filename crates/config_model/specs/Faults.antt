-- Faults of documents, and reading that stops at the first.
use Rattle.std.specs.Prelude.{◌≡◌, ℕ, List, Bool, Option, Some, None, Result, Ok, Err, string_bytes, if◌then◌else◌}
use Rattle.config_model.specs.declared.fault.DocKind.{DocKind}
use Rattle.config_model.specs.declared.fault.DocKind.TheVariants.{Range}
use Rattle.config_model.specs.declared.fault.DocFault.{DocFault}
use Rattle.config_model.specs.declared.fault.ReadRefusal.{ReadRefusal}
use Rattle.config_model.specs.declared.fault.ReadRefusal.TheVariants.{Doc, NoMemory}

-- where a document's form is broken, and how
pub record Fault : Type 0 where
  pub path : List ℕ
  pub kind : DocKind

abbrev pub fault_of : DocFault → Fault
fault_of f = record { path = string_bytes f.path; kind = f.kind }

-- reading goes on with what was read, and stops at the first fault
infixl 10 ◌>>=◌
abbrev pub ◌>>=◌ : {A B : Type 0} → Result A Fault → (A → Result B Fault) → Result B Fault
(Ok x) >>= f = f x
(Err e) >>= f = Err e

abbrev pub refused : {A : Type 0} → List ℕ → DocKind → Result A Fault
refused path what = Err (record { path = path; kind = what })

-- the value, where there is one
abbrev pub wanted : {A : Type 0} → List ℕ → DocKind → Option A → Result A Fault
wanted path what None = refused path what
wanted path what (Some x) = Ok x

-- the value, where it passes its test
abbrev pub kept : {A : Type 0} → List ℕ → Bool → A → Result A Fault
kept path passes x = if passes then Ok x else refused path Range

-- the refusal is this fault, or memory ran out
abbrev pub IsFault : ReadRefusal → Fault → Type 0
IsFault (Doc d) f = fault_of d ≡ f
IsFault NoMemory f = Unit {0}

-- reading stops at what the refusal says, or memory ran out
abbrev pub Fails : {Y : Type 0} → ReadRefusal → Result Y Fault → Type 0
Fails (Doc d) read = read ≡ Err (fault_of d)
Fails NoMemory read = Unit {0}

-- what a function returned, seen by view, is what reading gives, unless memory ran out
abbrev pub Gives : {X Y : Type 0} → (X → Y) → Result X ReadRefusal → Result Y Fault → Type 0
Gives view (Ok x) read = read ≡ Ok (view x)
Gives view (Err e) read = Fails e read
