-- What ends keep.
use Rattle.std.specs.Prelude.{◌≡◌, ℕ, ◌⊎◌, List, ◌++◌}
use Rattle.explanations.specs.declared.ends.FrontSink.{FrontSink}
use Rattle.explanations.specs.declared.ends.KeptInput.{KeptInput}
use Rattle.explanations.specs.declared.ends.KeptInput.TheVariants.{Nothing, Digits, Document}
use Rattle.explanations.specs.declared.ends.HeardSource.{HeardSource}

-- the front of what a sink took
abbrev pub front_of : {K : Type 0} → FrontSink K → List ℕ
front_of s = s.front.items

-- what a source keeps of what it gave
abbrev pub heard_of : {S : Type 0} → HeardSource S → KeptInput
heard_of s = s.heard

-- a document with these octets
abbrev IsDocument : List ℕ → KeptInput → Type 0
IsDocument octets (Document kept) = kept.items ≡ octets
IsDocument octets heard = ⊥

-- a text of digits with these octets
abbrev AreDigits : List ℕ → KeptInput → Type 0
AreDigits octets (Digits kept) = kept.items ≡ octets
AreDigits octets heard = ⊥

-- what is kept where octets follow: nothing, where they find no memory
abbrev pub HeardMore : KeptInput → List ℕ → KeptInput → Type 0
HeardMore Nothing octets now = now ≡ Nothing
HeardMore (Digits kept) octets now = AreDigits (kept.items ++ octets) now ⊎ (now ≡ Nothing)
HeardMore (Document kept) octets now = IsDocument (kept.items ++ octets) now ⊎ (now ≡ Nothing)
