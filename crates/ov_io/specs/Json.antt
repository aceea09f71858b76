-- What octets write as JSON (RFC 8259).
use Rattle.std.specs.Prelude.{ℕ, List, Option, None, if◌then◌else◌}
use Rattle.std.specs.Str.{is_utf8}
use Rattle.serde_json.specs.Data.{Data}
use Rattle.serde_json.specs.Read.{read}

-- the value that octets write, where they are text and the text has a reading
unfoldable pub json_of : List ℕ → Option Data
json_of octets = if is_utf8 octets then read octets else None
