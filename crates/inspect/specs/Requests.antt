-- What the words of the command line ask of the program itself, and which file they name.
use Rattle.std.specs.Prelude.{◌≡◌, IsSome, ℕ, ◌||◌, List, [], ◌∷◌, codes, nat_eq, Option, Some, None}
use Rattle.std.specs.Prelude.{String, string_bytes, true, if◌then◌else◌}
use Rattle.inspect_answers.specs.Commands.{asked_of, is_diff, named_by}
use Rattle.inspect_answers.specs.declared.asked.Asked.{Asked}
use Rattle.std.specs.declared.alloc.Global.{Global}
use Rattle.std.specs.Cmp.Lexicographic.{pointwise}
use Rattle.inspect.specs.declared.Request.{Request}
use Rattle.inspect.specs.declared.Request.TheVariants as request

-- what a word asks of the program itself, and not of a command
abbrev pub request_named : List ℕ → Request
request_named word =
    if pointwise nat_eq word (codes "--help") || pointwise nat_eq word (codes "-h") then request.Help
    else (if pointwise nat_eq word (codes "--version") then request.Version else request.Run)

-- what words ask of the program itself: one word, alone
abbrev pub request_of : List (String Global) → Request
request_of [] = request.Run
request_of (word ∷ []) = request_named (string_bytes word)
request_of (word ∷ other ∷ words) = request.Run

-- the first word of some, and the second
abbrev pub first_of : List (String Global) → Option (List ℕ)
first_of [] = None
first_of (file ∷ words) = Some (string_bytes file)

abbrev pub second_of : List (String Global) → Option (List ℕ)
second_of [] = None
second_of (file ∷ []) = None
second_of (file ∷ other ∷ words) = Some (string_bytes other)

-- the file is named by the first word behind the command, and behind `--json`
abbrev pub file_of : List (String Global) → Option (List ℕ)
file_of [] = None
file_of (command ∷ words) = first_of (named_by words)

-- the second file of two is named by the word behind that
abbrev pub file_after_of : List (String Global) → Option (List ℕ)
file_after_of [] = None
file_after_of (command ∷ words) = second_of (named_by words)

-- words that are a command ask nothing of the program itself
abbrev pub CommandsAreNoRequests : Type 0
CommandsAreNoRequests = (words : List (String Global)) (asked : Asked) → asked_of words ≡ Some asked → request_of words ≡ request.Run

-- words that are a command name a file
abbrev pub CommandsNameFiles : Type 0
CommandsNameFiles = (words : List (String Global)) (asked : Asked) → asked_of words ≡ Some asked → IsSome (file_of words)

-- words that ask what differs ask nothing of the program itself
abbrev pub DiffIsNoRequest : Type 0
DiffIsNoRequest = (words : List (String Global)) → is_diff words ≡ true → request_of words ≡ request.Run

-- words that ask what differs name two files
abbrev pub DiffNamesFiles : Type 0
DiffNamesFiles = (words : List (String Global)) → is_diff words ≡ true → IsSome (file_of words) × IsSome (file_after_of words)

-- words that ask what differs are no other command
abbrev pub DiffIsNoOther : Type 0
DiffIsNoOther = (words : List (String Global)) → is_diff words ≡ true → asked_of words ≡ None
