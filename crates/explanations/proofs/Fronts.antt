-- Fronts of lists.
use Rattle.std.proofs.Common.{◌≡◌, ℕ, ◌+◌, List, ◌++◌, length, take, ap, sym, ◌∙◌, arith}
use Rattle.std.specs.Str.{IsUtf8}
use Rattle.std.proofs.lemmas.List.{take_all}
use Rattle.std.proofs.lemmas.Str.{utf8_valid_len-IsUtf8}
use Rattle.explanations.specs.Words.{utf8_front}
use Rattle.std.specs.Prelude.{min}
use Rattle.std.proofs.lemmas.List.{take_min}
use Rattle.std.proofs.Math.Seq.{take-append-add}

-- what there is room for behind a list is the front of both
pub kept_front : (kept more : List ℕ) (room limit : ℕ) → length kept + room ≡ limit
    → kept ++ take (min room (length more)) more ≡ take limit (kept ++ more)
kept_front kept more room limit e =
    ap (λ (xs : List ℕ). kept ++ xs) (take_min room more)
    ∙ (sym (take-append-add kept more room) ∙ ap (λ (n : ℕ). take n (kept ++ more)) e)

-- of a text the longest front that is UTF-8 is the whole
pub whole_front : (octets : List ℕ) → IsUtf8 octets → utf8_front octets ≡ octets
whole_front octets h = take_all _ _ (omega (arith, utf8_valid_len-IsUtf8 octets h))
