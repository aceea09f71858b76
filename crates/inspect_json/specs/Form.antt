-- A value as a line of JSON, and what its text reads as.
use Rattle.std.specs.Prelude.{◌≡◌, ◌≢◌, ℕ, List, [], ◌∷◌, ◌++◌, Some}
use Rattle.std.specs.List.{All}
use Rattle.serde_json.specs.Data.{Data}
use Rattle.serde_json.specs.Written.{compact_text}
use Rattle.ov_io.specs.Json.{json_of}

-- the text of a value, with no space, as a line
unfoldable pub json_line : Data → List ℕ
json_line d = compact_text d ++ (10 ∷ [])

-- the text of a value is JSON in one line, and reads as that value
pub record IsReadBack (d : Data) : Type 0 where
  pub reads : json_of (compact_text d) ≡ Some d
  pub one_line : All (λ octet. octet ≢ 10) (compact_text d)
