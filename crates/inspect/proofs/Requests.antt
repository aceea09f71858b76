-- Words that are a command ask nothing of the program itself, and name a file or two.
use Rattle.std.proofs.Common.{◌≡◌, ◌&&◌, ℕ, IsSome, List, [], ◌∷◌, Some, None, true, nat_eq, codes, String, string_bytes, refl}
use Rattle.std.specs.Cmp.Lexicographic.{pointwise}
use Rattle.std.specs.declared.alloc.Global.{Global}
use Rattle.std.proofs.lemmas.Bool.{and_parts}
use Rattle.inspect_answers.specs.Commands.{are_two_files, asked_by, form_behind, named_by}
use Rattle.inspect_answers.specs.declared.asked.Asked.{Asked}
use Rattle.inspect_json.specs.declared.form.Form.{Form}
use Rattle.inspect.specs.Requests.{CommandsAreNoRequests, CommandsNameFiles, DiffIsNoOther, DiffIsNoRequest, DiffNamesFiles, first_of, second_of}

pub commands_are_no_requests : CommandsAreNoRequests
commands_are_no_requests [] asked h = refl
commands_are_no_requests (word ∷ []) asked h = absurd (cc h)
commands_are_no_requests (word ∷ file ∷ words) asked h = refl

-- what a command is asked by has a first word
by_some : (command : List ℕ) (form : Form) (words : List (String Global)) (asked : Asked) → asked_by command form words ≡ Some asked
    → IsSome (first_of words)
by_some command form [] asked h = absurd (cc h)
by_some command form (file ∷ words) asked h = refl

pub commands_name_files : CommandsNameFiles
commands_name_files [] asked h = absurd (cc h)
commands_name_files (word ∷ words) asked h = by_some (string_bytes word) (form_behind words) (named_by words) asked h

-- words that ask what differs have two files behind the command, and behind `--json`
two_named : (word : String Global) (words : List (String Global)) → (pointwise nat_eq (string_bytes word) (codes "diff") && are_two_files (named_by words)) ≡ true
    → are_two_files (named_by words) ≡ true
two_named word words h = (and_parts (pointwise nat_eq (string_bytes word) (codes "diff")) (are_two_files (named_by words)) h).1

pub diff_is_no_request : DiffIsNoRequest
diff_is_no_request [] h = refl
diff_is_no_request (word ∷ []) h = absurd (let two = two_named word [] h in cc)
diff_is_no_request (word ∷ file ∷ words) h = refl

no_other : (command : List ℕ) (form : Form) (words : List (String Global)) → are_two_files words ≡ true → asked_by command form words ≡ None
no_other command form [] h = absurd cc
no_other command form (file ∷ []) h = absurd cc
no_other command form (file ∷ other ∷ []) h = refl
no_other command form (file ∷ other ∷ more ∷ words) h = absurd cc

pub diff_is_no_other : DiffIsNoOther
diff_is_no_other [] h = refl
diff_is_no_other (word ∷ words) h = no_other (string_bytes word) (form_behind words) (named_by words) (two_named word words h)

two_files : (words : List (String Global)) → are_two_files words ≡ true → IsSome (first_of words) × IsSome (second_of words)
two_files [] h = absurd cc
two_files (file ∷ []) h = absurd cc
two_files (file ∷ other ∷ words) h = (refl, refl)

pub diff_names_files : DiffNamesFiles
diff_names_files [] h = absurd cc
diff_names_files (word ∷ words) h = two_files (named_by words) (two_named word words h)
