-- The words of the command line.
use Rattle.std.specs.Prelude.{ℕ, ◌&&◌, Bool, false, not, List, [], ◌∷◌, codes, nat_eq, Option, Some, None, String, string_bytes, if◌then◌else◌}
use Rattle.std.specs.Cmp.Lexicographic.{pointwise}
use Rattle.std.specs.declared.alloc.Global.{Global}
use Rattle.ov_types.specs.First.{same_name}
use Rattle.ov_types.specs.Name.{name_of}
use Rattle.inspect_answers.specs.declared.asked.Asked.{Asked}
use Rattle.inspect_answers.specs.declared.asked.Asked.TheVariants as Asks
use Rattle.inspect_changes.specs.declared.pairs.Pairs.TheVariants.{All, Between}
use Rattle.inspect_json.specs.declared.form.Form.{Form}
use Rattle.inspect_json.specs.declared.form.Form.TheVariants.{Text, Json}

abbrev pub is_ways : List ℕ → Bool
is_ways word = pointwise nat_eq word (codes "ways")

abbrev pub is_json : List ℕ → Bool
is_json word = pointwise nat_eq word (codes "--json")

-- the form of lines that the words behind a command ask for
abbrev pub form_behind : List (String Global) → Form
form_behind [] = Text
form_behind (word ∷ words) = if is_json (string_bytes word) then Json else Text

-- the words behind a command, and behind `--json`
abbrev pub named_by : List (String Global) → List (String Global)
named_by [] = []
named_by (word ∷ words) = if is_json (string_bytes word) then words else word ∷ words

-- what a command asks for that is given a file alone
abbrev pub asked_alone : Form → List ℕ → Option Asked
asked_alone form word =
    if is_ways word then Some (Asks.Ways form All)
    else (if pointwise nat_eq word (codes "expect") then Some (Asks.Expect form)
    else (if pointwise nat_eq word (codes "unused") then Some (Asks.Unused form)
    else (if pointwise nat_eq word (codes "why") then Some (Asks.Why form)
    else (if pointwise nat_eq word (codes "hitless") then Some (Asks.Hitless form) else None))))

-- the ways between two networks of these names, which differ
abbrev pub asked_between : Form → Option (List ℕ) → Option (List ℕ) → Option Asked
asked_between form None to = None
asked_between form (Some from) None = None
asked_between form (Some from) (Some to) = if same_name from to then None else Some (Asks.Ways form (Between from to))

-- what a command asks for by the words behind it: the document's file, and, for `ways`, none or two names of networks
abbrev pub asked_by : List ℕ → Form → List (String Global) → Option Asked
asked_by command form [] = None
asked_by command form (file ∷ []) = asked_alone form command
asked_by command form (file ∷ from ∷ []) = None
asked_by command form (file ∷ from ∷ to ∷ []) =
    if is_ways command then asked_between form (name_of (string_bytes from)) (name_of (string_bytes to)) else None
asked_by command form (file ∷ from ∷ to ∷ other ∷ words) = None

-- what words ask of a document: a command, `--json` where lines of JSON are asked for, and what it takes
abbrev pub asked_of : List (String Global) → Option Asked
asked_of [] = None
asked_of (command ∷ words) = asked_by (string_bytes command) (form_behind words) (named_by words)

abbrev pub is_input : List ℕ → Bool
is_input file = pointwise nat_eq file (codes "-")

-- two files, of which one at most is standard input
abbrev pub are_two_files : List (String Global) → Bool
are_two_files (before ∷ after ∷ []) = not (is_input (string_bytes before) && is_input (string_bytes after))
are_two_files _ = false

-- words ask what differs between two documents: a command, `--json` where lines of JSON are asked for, and the files of both
abbrev pub is_diff : List (String Global) → Bool
is_diff [] = false
is_diff (command ∷ words) = pointwise nat_eq (string_bytes command) (codes "diff") && are_two_files (named_by words)

-- the form of lines that words ask for
abbrev pub form_of : List (String Global) → Form
form_of [] = Text
form_of (command ∷ words) = form_behind words
