-- What octets write as JSON.
use Rattle.std.proofs.Common.{◌≡◌, ℕ, List, None, refl}
use Rattle.std.specs.Str.{IsUtf8, is_utf8}
use Rattle.std.proofs.lemmas.Bool.{false_from_ne_true}
use Rattle.std.proofs.lemmas.Str.{IsUtf8-from_is_utf8, is_utf8-from_IsUtf8}
use Rattle.serde_json.specs.Read.{read}
use Rattle.ov_io.specs.Json.{json_of}

pub json_of_text : (bs : List ℕ) → IsUtf8 bs → read bs ≡ json_of bs
unfolding json_of
json_of_text bs h = rw (is_utf8-from_IsUtf8 bs h) refl

pub json_of_other : (bs : List ℕ) → (IsUtf8 bs → ⊥) → None ≡ json_of bs
unfolding json_of
json_of_other bs h = rw (false_from_ne_true (is_utf8 bs) (λ e. h (IsUtf8-from_is_utf8 bs e))) refl
