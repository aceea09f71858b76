-- What is said to people of a run: one line.
use Rattle.std.specs.Prelude.{◌≡◌, ℕ, ◌==◌, ◌||◌, Bool, List, [], ◌∷◌, ◌++◌, length, drop, min, codes, Option, Some, None, ◌⊎◌}
use Rattle.std.specs.Prelude.{if◌then◌else◌}
use Rattle.std.specs.List.{list_all}
use Rattle.explanations.specs.Digits.{digit_sentence, is_blank, nothing_scanned, scanned}
use Rattle.explanations.specs.Form.{FormWords, form_fault_in, form_sentence}
use Rattle.explanations.specs.Help.{advice_text}
use Rattle.explanations.specs.Refusals.{RefusedWords, refused_in}
use Rattle.explanations.specs.Sentences.{refused_sentence}
use Rattle.explanations.specs.Stops.{IsJsonFault, json_sentence}
use Rattle.explanations.specs.Words.{begins_so}
use Rattle.explanations.specs.declared.digits.DigitFault.{DigitFault}
use Rattle.explanations.specs.declared.ends.KeptInput.{KeptInput}
use Rattle.explanations.specs.declared.ends.KeptInput.TheVariants as Kept
use Rattle.explanations.specs.declared.explanation.Explanation.{Explanation}
use Rattle.explanations.specs.declared.explanation.Explanation.TheVariants as Says
use Rattle.explanations.specs.declared.help.Advice.{Advice}
use Rattle.explanations.specs.declared.help.Advice.TheVariants as On
use Rattle.explanations.specs.declared.json.JsonFault.{JsonFault}

-- a sentence as a line of the program's
abbrev said : List ℕ → List ℕ
said sentence = codes "overlay: " ++ (sentence ++ (10 ∷ []))

-- what to do, as a line
abbrev pub advised : Advice → List ℕ
advised advice = said (advice_text advice)

abbrev pub explanation_text : Explanation → List ℕ
explanation_text (Says.Advice advice) = advised advice
explanation_text (Says.JsonFault fault) = said (json_sentence fault)
explanation_text (Says.DigitFault fault) = said (digit_sentence fault)
explanation_text (Says.FormFault fault) = said (form_sentence fault.kind fault.path.now)
explanation_text (Says.Refused r) = said (refused_sentence r.rule r.first.now r.second.now r.third.now)

-- what the words of a line say, where it has any: what its value is, and how it breaks the form
abbrev form_said : Option FormWords → List ℕ
form_said (Some words) = said (form_sentence words.kind words.path)
form_said None = advised On.BadDocument

-- what is said of the line of a document that breaks the form
abbrev pub form_explanation : List ℕ → List ℕ
form_explanation line = form_said (form_fault_in line)

abbrev refusal_said : Option RefusedWords → List ℕ
refusal_said (Some words) = said (refused_sentence words.rule words.first words.second words.third)
refusal_said None = advised On.Refused

-- what is said of the line of a configuration that breaks a rule
abbrev pub refusal_explanation : List ℕ → List ℕ
refusal_explanation line = refusal_said (refused_in line)

abbrev stop_advice : List ℕ
stop_advice = advised On.NotJson

abbrev digits_said : Option DigitFault → List ℕ
digits_said (Some fault) = said (digit_sentence fault)
digits_said None = stop_advice

-- octets that some editors put before a text
abbrev byte_order_mark : List ℕ
byte_order_mark = 239 ∷ (187 ∷ (191 ∷ []))

-- octets of a text of two or four octets a character: one of the first two is no character, or they are a mark
abbrev pub is_wide : List ℕ → Bool
is_wide octets =
    begins_so (0 ∷ []) octets || (begins_so (0 ∷ []) (drop (min (length octets) 1) octets)
    || (begins_so (254 ∷ (255 ∷ [])) octets || begins_so (255 ∷ (254 ∷ [])) octets))

-- what to do about a document that shows at its front, or at all of it, why it is no JSON
abbrev pub advice_of : List ℕ → Option Advice
advice_of octets =
    if length octets == 0 then Some On.EmptyInput
    else (if begins_so byte_order_mark octets then Some On.ByteOrderMark
    else (if is_wide octets then Some On.WideInput
    else (if list_all is_blank octets then Some On.BlankInput
    else None)))

-- why a document is no JSON, or what to give
abbrev IsToldFault : List ℕ → List ℕ → Type 0
IsToldFault octets text =
    (text ≡ stop_advice) ⊎ ((fault : JsonFault) × IsJsonFault octets fault × (text ≡ said (json_sentence fault)))

-- what is said of a document: what to do about what its front shows, or else why it is no JSON
abbrev IsDocumentTold : Option Advice → List ℕ → List ℕ → Type 0
IsDocumentTold (Some advice) octets text = text ≡ advised advice
IsDocumentTold None octets text = IsToldFault octets text

abbrev pub IsDocumentStop : List ℕ → List ℕ → Type 0
IsDocumentStop octets text = IsDocumentTold (advice_of octets) octets text

-- what is said of an input that is no JSON, or no digits, by what was kept of it; without a place, what to give
abbrev pub IsStop : KeptInput → List ℕ → Type 0
IsStop Kept.Nothing text = text ≡ stop_advice
IsStop (Kept.Digits kept) text = text ≡ digits_said (scanned nothing_scanned kept.items).fault
IsStop (Kept.Document kept) text = IsDocumentStop kept.items text
