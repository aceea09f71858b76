-- What is said to people of a run, by how it ended.
use Rattle.std.specs.Prelude.{◌≡◌, ℕ, List, [], ◌∷◌, ◌++◌, codes, Option, Some, None}
use Rattle.explanations.specs.Explanations.{IsStop, advised, form_explanation, refusal_explanation}
use Rattle.explanations.specs.declared.ends.KeptInput.{KeptInput}
use Rattle.explanations.specs.declared.help.Advice.TheVariants as On
use Rattle.top_call.specs.declared.top.Status.{Status}
use Rattle.top_call.specs.declared.top.Status.TheVariants as Ended

-- something is said, of which this holds
abbrev Says : (List ℕ → Type 0) → Option (List ℕ) → Type 0
Says Fact None = ⊥
Says Fact (Some text) = Fact text

-- by the front of what was written, and by what was kept of the input. Where all is done nothing is said, and where the
-- words are no command the usage is printed in place of it.
abbrev pub IsSaid : Status → List ℕ → KeptInput → Option (List ℕ) → Type 0
IsSaid Ended.Done front heard told = told ≡ None
IsSaid Ended.Usage front heard told = told ≡ None
IsSaid Ended.ReadFault front heard told = told ≡ Some (advised On.ReadFault)
IsSaid Ended.TooLong front heard told = told ≡ Some (advised On.TooLong)
IsSaid Ended.NotJson front heard told = Says (IsStop heard) told
IsSaid Ended.BadDocument front heard told = told ≡ Some (form_explanation front)
IsSaid Ended.Refused front heard told = told ≡ Some (refusal_explanation front)
IsSaid Ended.WriteFault front heard told = told ≡ Some (advised On.WriteFault)
IsSaid Ended.NoMemory front heard told = told ≡ Some (advised On.NoMemory)

-- the line of a sentence
abbrev line : List ℕ → List ℕ
line sentence = codes "overlay: " ++ (sentence ++ (10 ∷ []))

-- the line of each status that is told by itself, whatever was written and kept
pub record EachEndHasItsLine : Type 0 where
  pub read_fault : (front : List ℕ) (heard : KeptInput) (told : Option (List ℕ)) → IsSaid Ended.ReadFault front heard told
      → told ≡ Some (line (codes "standard input could not be read: give it a file or a pipe that is open"))
  pub too_long : (front : List ℕ) (heard : KeptInput) (told : Option (List ℕ)) → IsSaid Ended.TooLong front heard told
      → told ≡ Some (line (codes "the input has more than 16,777,216 octets: leave out what is not asked for, or make two of it"))
  pub write_fault : (front : List ℕ) (heard : KeptInput) (told : Option (List ℕ)) → IsSaid Ended.WriteFault front heard told
      → told ≡ Some (line (codes "standard output could not be written: what takes it was closed, as by head, or there is no room where it goes"))
  pub no_memory : (front : List ℕ) (heard : KeptInput) (told : Option (List ℕ)) → IsSaid Ended.NoMemory front heard told
      → told ≡ Some (line (codes "there was no memory: allow the program more, or give it a smaller input"))
