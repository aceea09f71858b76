-- What is said of a document that breaks the form: which value, how, and what the form wants there.
use Rattle.std.specs.Prelude.{ℕ, List, [], ◌∷◌, ◌++◌, ◌==◌, nat_lt, length, drop, codes, Option, Some, None, if◌then◌else◌}
use Rattle.explanations.specs.declared.form.FormFault.{FormFault}
use Rattle.explanations.specs.declared.form.FormKind.{FormKind}
use Rattle.explanations.specs.declared.form.FormKind.TheVariants.{Missing, Kind, Range, Unknown, Cut}
use Rattle.explanations.specs.Allowed.{allowed_at}
use Rattle.explanations.specs.Wanted.{wanted_at}
use Rattle.explanations.specs.Words.{begins_so, ends_so, shown, utf8_front, without_end}

-- a path, and how its value breaks the form
pub record FormWords : Type 0 where
  pub path : List ℕ
  pub kind : FormKind

abbrev pub form_words : FormFault → FormWords
form_words f = record { path = f.path.now; kind = f.kind }

-- what a path leads to: the empty one to the whole document
abbrev pub subject_of : List ℕ → List ℕ
subject_of path = if length path == 0 then codes "the document" else path

-- what the path of a member leads to that the form does not have: the empty one to a member of the document
abbrev pub stranger_of : List ℕ → List ℕ
stranger_of path = if length path == 0 then codes "the member without a name" else path

-- what is said, where a number is wanted, of which numbers are whole
abbrev pub kind_note : List ℕ → List ℕ
kind_note wanted =
    if begins_so (codes "a whole number") wanted then codes "; a number stands in digits alone and is below 2^64" else []

abbrev pub form_sentence : FormKind → List ℕ → List ℕ
form_sentence Missing path = shown (subject_of path) ++ (codes " is missing, and the form wants it: " ++ wanted_at path)
form_sentence Kind path =
    shown (subject_of path) ++ (codes " is a JSON value of another kind than the form wants there: "
    ++ (wanted_at path ++ kind_note (wanted_at path)))
form_sentence Range path =
    shown (subject_of path) ++ (codes " is outside what the form allows there: " ++ wanted_at path)
form_sentence Unknown path =
    shown (stranger_of path) ++ (codes " is a member that the form does not have there: " ++ allowed_at path)
form_sentence Cut path = shown path ++ codes ".. breaks the form; standard output has the whole path, and how"

-- what stands before the kind that ends a text, and the kind
unfoldable pub kind_at_end : List ℕ → FormWords
kind_at_end text =
    if ends_so (codes " Missing" ++ (10 ∷ [])) text
    then record { path = without_end (codes " Missing" ++ (10 ∷ [])) text; kind = Missing }
    else (if ends_so (codes " Kind" ++ (10 ∷ [])) text
    then record { path = without_end (codes " Kind" ++ (10 ∷ [])) text; kind = Kind }
    else (if ends_so (codes " Range" ++ (10 ∷ [])) text
    then record { path = without_end (codes " Range" ++ (10 ∷ [])) text; kind = Range }
    else (if ends_so (codes " Unknown" ++ (10 ∷ [])) text
    then record { path = without_end (codes " Unknown" ++ (10 ∷ [])) text; kind = Unknown }
    else record { path = text; kind = Cut })))

-- the path and the kind in a line of which at most 512 octets were kept: where there are as many, it may be cut
abbrev pub kind_in : List ℕ → FormWords
kind_in line =
    if nat_lt (length line) 512 then kind_at_end (drop 12 line) else record { path = drop 12 line; kind = Cut }

-- the words of the line of a fault: the path stands between two blanks, and there is one where it is empty
unfoldable pub form_fault_in : List ℕ → Option FormWords
form_fault_in line =
    if begins_so (codes "bad document") line
    then (let told = kind_in line in
    Some (record { path = utf8_front (drop 1 told.path); kind = told.kind }))
    else None
