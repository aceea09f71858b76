-- Words that are a command ask nothing of the program itself.
use Rattle.std.proofs.Common.{◌≡◌, ℕ, ◌==◌, Bool, true, false, List, [], ◌∷◌, string_bytes, is_some, None, refl, sym, ◌∙◌, ap, arith}
use Rattle.top_call.specs.Commands.{command_named}
use Rattle.overlay.specs.Requests.{BlanksAreOne, CommandsAreNoRequests, request_named}
use Rattle.overlay.specs.declared.Request.TheVariants as request

-- a word with a dash at its front names no command
none_named : (word : List ℕ) → is_some (command_named (45 ∷ word)) ≡ false
none_named word = refl

-- one without a dash asks nothing
nothing_asked : (c : ℕ) (word : List ℕ) → (c == 45) ≡ false → request_named (c ∷ word) ≡ request.Run
nothing_asked c word e = rw e refl

by_dash : (is_dash : Bool) (c : ℕ) (word : List ℕ) → (c == 45) ≡ is_dash
    → is_some (command_named (c ∷ word)) ≡ true → request_named (c ∷ word) ≡ request.Run
by_dash false c word e h = nothing_asked c word e
by_dash true c word e h =
    let dash : c ≡ 45 = grind (arith, e) in
    let two : false ≡ true = sym (none_named word) ∙ ap (λ d. is_some (command_named (d ∷ word))) (sym dash) ∙ h in
    cc

no_command : (word : List ℕ) → is_some (command_named word) ≡ true → request_named word ≡ request.Run
no_command [] h = let two : false ≡ true = h in cc
no_command (c ∷ word) h = by_dash (c == 45) c word refl h

pub commands_are_no_requests : CommandsAreNoRequests
commands_are_no_requests [] h = refl
commands_are_no_requests (word ∷ []) h = no_command (string_bytes word) h
commands_are_no_requests (word ∷ number ∷ []) h = refl
commands_are_no_requests (word ∷ number ∷ other ∷ words) h = refl

pub blanks_are_one : BlanksAreOne
blanks_are_one octet = refl
