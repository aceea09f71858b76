-- Why a document is no JSON that the reader takes, and where.
use Rattle.std.specs.Prelude.{◌≡◌, ℕ, ◌≤◌, ◌++◌, List, length, take, codes, None, ⊤}
use Rattle.ov_io.specs.Json.{json_of}
use Rattle.explanations.specs.Places.{place_behind, place_text, start}
use Rattle.explanations.specs.Words.{utf8_front}
use Rattle.explanations.specs.declared.json.JsonFault.{JsonFault}
use Rattle.explanations.specs.declared.json.JsonFault.TheVariants.{Stop, TooDeep, Number, Surrogate}
use Rattle.explanations.specs.declared.json_text.JsonEnd.{JsonEnd}
use Rattle.explanations.specs.declared.json_text.JsonEnd.TheVariants as End
use Rattle.explanations.specs.declared.place.TextPlace.{TextPlace}

-- how far a text can be read lies within it
abbrev pub IsWithin : ℕ → JsonEnd → Type 0
IsWithin size (End.Stopped count) = count ≤ size
IsWithin size (End.TooDeep count) = count ≤ size
IsWithin size End.Whole = ⊤

-- the place of an octet of these, or that behind them
abbrev pub IsPlaceIn : List ℕ → TextPlace → Type 0
IsPlaceIn octets place = (count : ℕ) × (count ≤ length octets) × (place ≡ place_behind start (take count octets))

-- a fault that has a place has it in these octets
abbrev pub IsFaultIn : List ℕ → JsonFault → Type 0
IsFaultIn octets (Stop place) = IsPlaceIn octets place
IsFaultIn octets (TooDeep place) = IsPlaceIn octets place
IsFaultIn octets Number = ⊤
IsFaultIn octets Surrogate = ⊤

-- a document is no JSON, and its fault lies at the latest behind the longest front that is UTF-8
pub record IsJsonFault (octets : List ℕ) (fault : JsonFault) : Type 0 where
  pub no_json : json_of octets ≡ None
  pub within : IsFaultIn (utf8_front octets) fault

abbrev pub json_sentence : JsonFault → List ℕ
json_sentence (Stop place) = codes "the input is no JSON, and reading it stopped at " ++ place_text place
json_sentence (TooDeep place) =
    codes "lists and objects stand at most 127 deep in each other, and at " ++ (place_text place
    ++ codes " a deeper one begins")
json_sentence Number = codes "a number of the input is greater than this program reads, which is about 1.8e308 at most"
json_sentence Surrogate = codes "a text of the input has half of a surrogate pair, as \\ud800 alone, which is no character"
