-- What is kept of the input, for people.
use Rattle.std.specs.Prelude.{◌≡◌, ℕ, List, [], ◌∷◌, codes, nat_eq, String, string_bytes, IsTrue}
use Rattle.std.specs.Cmp.Lexicographic.{pointwise}
use Rattle.std.specs.declared.alloc.Global.{Global}
use Rattle.explanations.specs.declared.ends.KeptInput.{KeptInput}
use Rattle.explanations.specs.declared.ends.KeptInput.TheVariants.{Nothing, Digits, Document}

-- a document of which nothing is read yet
abbrev pub IsEmpty : KeptInput → Type 0
IsEmpty (Document kept) = kept.items ≡ []
IsEmpty heard = ⊥

-- a text of digits of which nothing is read yet
abbrev pub AreNone : KeptInput → Type 0
AreNone (Digits kept) = kept.items ≡ []
AreNone heard = ⊥

-- by the name of a command: the octets of its digits, or those of its document
pub record KeepsForName (word : List ℕ) (heard : KeptInput) : Type 0 where
  pub digits : IsTrue (pointwise nat_eq word (codes "decode")) → AreNone heard
  pub document : ¬ IsTrue (pointwise nat_eq word (codes "decode")) → IsEmpty heard

-- by the words: nothing where they are none or several
abbrev pub KeepsFor : List (String Global) → KeptInput → Type 0
KeepsFor [] heard = heard ≡ Nothing
KeepsFor (word ∷ []) heard = KeepsForName (string_bytes word) heard
KeepsFor (word ∷ more ∷ words) heard = heard ≡ Nothing

-- `decode` reads digits, and each other command that reads an input a document
pub record EachInputIsKept : Type 0 where
  pub compile : (heard : KeptInput) → KeepsForName (codes "compile") heard → IsEmpty heard
  pub reach : (heard : KeptInput) → KeepsForName (codes "reach") heard → IsEmpty heard
  pub scale : (heard : KeptInput) → KeepsForName (codes "scale") heard → IsEmpty heard
  pub constrain : (heard : KeptInput) → KeepsForName (codes "constrain") heard → IsEmpty heard
  pub graceful : (heard : KeptInput) → KeepsForName (codes "graceful") heard → IsEmpty heard
  pub flows : (heard : KeptInput) → KeepsForName (codes "flows") heard → IsEmpty heard
  pub run : (heard : KeptInput) → KeepsForName (codes "run") heard → IsEmpty heard
  pub decode : (heard : KeptInput) → KeepsForName (codes "decode") heard → AreNone heard
