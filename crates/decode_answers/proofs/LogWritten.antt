-- What is written of an input.
use Rattle.std.proofs.Common.{◌≡◌, ◌≢◌, ℕ, List, [], Option, Some, None, Result, Ok, Err, OnOk, OnErr, refl, sym, subst}
use Rattle.std.specs.Prelude.{IfOk}
use Rattle.serde_json.specs.Data.{Data}
use Rattle.config_model.specs.Faults.{Fault}
use Rattle.ov_io.specs.Inputs.{TookFront}
use Rattle.ov_io.specs.Pieces.{TookFrontOf, TookText}
use Rattle.ov_io.specs.Json.{json_of}
use Rattle.compile_answers.specs.declared.unfit.Reception.{Reception}
use Rattle.compile_answers.specs.declared.unfit.Reception.TheVariants.{Refused}
use Rattle.compile_answers.specs.declared.unfit.Unfit.{Unfit}
use Rattle.compile_answers.specs.Answers.{DocumentAnswer, IsAnswered, IsUnfit, Taken, WasGiven, taken_as, taken_from}
use Rattle.decode_answers.specs.declared.log_answer.Log.{Log}
use Rattle.decode_answers.specs.declared.entry.LogEntry.{LogEntry}
use Rattle.decode_answers.specs.LogReading.{log_at}
use Rattle.decode_answers.proofs.Forms.{log_form}
use Rattle.decode_answers.specs.LogAnswers.{WritesLog, graceful_verdict, log_in, log_taken}
use Rattle.decode_answers.proofs.SomeText.{some_text}

abbrev of_reading : Result (List LogEntry) Fault → Taken Log
of_reading r = taken_as (λ entries. Ok (record { entries = entries })) r

-- ---- a log is found, or nothing is refused
reading_unrefused : (r : Result (List LogEntry) Fault) → graceful_verdict (of_reading r) ≢ Refused
reading_unrefused (Ok log) e = absurd cc
reading_unrefused (Err f) e = absurd cc

value_unrefused : (o : Option Data) → graceful_verdict (taken_from log_taken o) ≢ Refused
unfolding log_taken
value_unrefused None e = absurd cc
value_unrefused (Some d) e = reading_unrefused (log_at [] d) e

pub never_refused : (octets : List ℕ) → graceful_verdict (log_in octets) ≢ Refused
unfolding log_in
never_refused octets = value_unrefused (json_of octets)

-- ---- each input has a text
text_of_reading : (d : Data) (r : Result (List LogEntry) Fault) → log_at [] d ≡ r → (text : List ℕ) × WritesLog (of_reading r) text
text_of_reading d (Ok log) e = some_text [] 1 log (log_form [] d log e)
text_of_reading d (Err f) e = (_, refl)

text_of_value : (o : Option Data) → (text : List ℕ) × WritesLog (taken_from log_taken o) text
unfolding log_taken
text_of_value None = (_, refl)
text_of_value (Some d) = text_of_reading d (log_at [] d) refl

pub some_written : (octets : List ℕ) → (text : List ℕ) × WritesLog (log_in octets) text
unfolding log_in
some_written octets = text_of_value (json_of octets)

-- ---- what is not fit is answered by what is written
abbrev answer_to : Taken Log → List ℕ → DocumentAnswer
answer_to r text = record { verdict = graceful_verdict r; text = text }

pub answers : (u : Unfit) (r : Taken Log) (text : List ℕ) → IsUnfit u r → WritesLog r text → IsAnswered u (answer_to r text)
answers u (Ok log) text is writes = subst (λ (v : Unfit). IsAnswered v (answer_to (Ok log) text)) (sym is) tt
answers u (Err a) text is writes = subst (λ (t : List ℕ). IsAnswered u (record { verdict = a.verdict; text = t })) (sym writes) is

-- ---- how the line ends
pub verdict_given : {E : Type 0} (result : Result Reception E) (r : Taken Log) (text : List ℕ) (old new : Option (List ℕ))
    → IfOk result (λ verdict. WasGiven (record { verdict = graceful_verdict r; text = text }) verdict old new)
    → IfOk result (λ verdict. verdict ≡ graceful_verdict r)
verdict_given (Ok v) r text old new given = given.is
verdict_given (Err e) r text old new given = tt

pub unrefused_given : {E : Type 0} (result : Result Reception E) (octets : List ℕ) → IfOk result (λ verdict. verdict ≡ graceful_verdict (log_in octets))
    → IfOk result (λ verdict. verdict ≢ Refused)
unrefused_given (Ok v) octets is = λ e. never_refused octets (subst (λ (w : Reception). w ≡ Refused) is e)
unrefused_given (Err e) octets is = tt

pub text_given : {E : Type 0} (result : Result Reception E) (r : Taken Log) (text : List ℕ) (old new : Option (List ℕ)) → WritesLog r text
    → IfOk result (λ verdict. WasGiven (record { verdict = graceful_verdict r; text = text }) verdict old new)
    → OnOk result (TookText (WritesLog r) old new)
text_given (Ok v) r text old new writes given = record { text = text; is = writes; taken = given.taken }
text_given (Err e) r text old new writes given = tt

pub front_given : {E : Type 0} (result : Result Reception E) (r : Taken Log) (text : List ℕ) (old new : Option (List ℕ)) → WritesLog r text
    → OnErr result (TookFront old new text) → OnErr result (TookFrontOf (WritesLog r) old new)
front_given (Ok v) r text old new writes front = tt
front_given (Err e) r text old new writes front = record { text = text; is = writes; taken = front }
