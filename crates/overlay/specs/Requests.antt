-- What the words of the command line ask of the program itself.
use Rattle.std.specs.Prelude.{◌≡◌, ℕ, ◌||◌, List, [], ◌∷◌, codes, is_some, nat_eq, true}
use Rattle.std.specs.Prelude.{String, string_bytes, if◌then◌else◌}
use Rattle.std.specs.declared.alloc.Global.{Global}
use Rattle.std.specs.Cmp.Lexicographic.{pointwise}
use Rattle.decode_answers.specs.Decoding.{is_blank}
use Rattle.explanations.specs.Digits as people
use Rattle.top_call.specs.Commands.{command_of}
use Rattle.overlay.specs.declared.Request.{Request}
use Rattle.overlay.specs.declared.Request.TheVariants as request

-- what a word asks of the program itself, and not of a command
abbrev pub request_named : List ℕ → Request
request_named word =
    if pointwise nat_eq word (codes "--help") || pointwise nat_eq word (codes "-h") then request.Help
    else (if pointwise nat_eq word (codes "--version") then request.Version else request.Run)

-- what words ask of the program itself: one word, alone
abbrev pub request_of : List (String Global) → Request
request_of [] = request.Run
request_of (word ∷ []) = request_named (string_bytes word)
request_of (word ∷ other ∷ words) = request.Run

-- words that are a command ask nothing of the program itself
abbrev pub CommandsAreNoRequests : Type 0
CommandsAreNoRequests = (words : List (String Global)) → is_some (command_of words) ≡ true → request_of words ≡ request.Run

-- a blank of `decode` is one of what people are told of digits
abbrev pub BlanksAreOne : Type 0
BlanksAreOne = (octet : ℕ) → is_blank octet ≡ people.is_blank octet
