-- What is not fit is answered by what is taken.
use Rattle.std.proofs.Common.{ℕ, List, Option, Some, None, Result, Ok, Err, refl, sym, subst}
use Rattle.config_model.specs.declared.fault.ReadRefusal.{ReadRefusal}
use Rattle.config_model.specs.declared.fault.ReadRefusal.TheVariants as read
use Rattle.config_model.specs.Faults.{Fails, Fault}
use Rattle.config_check.specs.declared.refusal.Refusal.{Refusal}
use Rattle.compile_answers.specs.declared.unfit.Unfit.{Unfit}
use Rattle.compile_answers.specs.declared.unfit.Unfit.TheVariants.{NoMemory}
use Rattle.compile_answers.specs.Answers.{IsAnswered, IsUnfit, Taken}
use Rattle.compile_answers.specs.Answers.{answer_by, answer_good, taken_as, taken_unless, unfit_by}

-- of anything memory can be wanting
pub no_memory : {A : Type 0} (r : Taken A) → IsUnfit NoMemory r
no_memory (Ok x) = refl
no_memory (Err answer) = tt

-- what was not read is not fit
pub fault_unfit : {A B : Type 0} (e : ReadRefusal) (r : Result A Fault) (take : A → Taken B) → Fails e r → IsUnfit (unfit_by e) (taken_as take r)
fault_unfit {A = A} (read.Doc f) r take fails =
    subst (λ (r : Result A Fault). IsUnfit (unfit_by (read.Doc f)) (taken_as take r)) (sym fails) refl
fault_unfit read.NoMemory r take fails = no_memory (taken_as take r)

-- what breaks a rule is not fit, whatever would be made of it
pub rule_unfit : {A B : Type 0} (u : Unfit) (broken : Option Refusal) (x : A) (y : B) → IsUnfit u (taken_unless broken x)
    → IsUnfit u (taken_unless broken y)
rule_unfit u None x y memory = memory
rule_unfit u (Some r) x y answered = answered

-- what is not fit is answered so
pub unfit_answered : {A : Type 0} (u : Unfit) (r : Taken A) (text : A → List ℕ) → IsUnfit u r → IsAnswered u (answer_by text r)
unfit_answered u (Ok x) text memory = subst (λ (v : Unfit). IsAnswered v (answer_good (text x))) (sym memory) tt
unfit_answered u (Err answer) text answered = answered
