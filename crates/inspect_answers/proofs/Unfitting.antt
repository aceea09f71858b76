-- What is not fit is answered so.
use Rattle.std.proofs.Common.{◌≡◌, ◌≢◌, ℕ, List, refl, sym, ap, ◌∙◌, subst, Ok, Err}
use Rattle.config_types.specs.declared.config.Config.{Config}
use Rattle.config_check.specs.Checked.{Checked}
use Rattle.config_model.specs.Faults.{fault_of}
use Rattle.compile_answers.specs.Answers as documents
use Rattle.compile_answers.specs.Answers.{DocumentAnswer, IsAnswered, Taken, answer_bad, answer_good, answer_not_json, answer_refused}
use Rattle.compile_answers.specs.Answers.{compile_taken, taken_from}
use Rattle.ov_io.specs.Json.{json_of}
use Rattle.compile_answers.specs.declared.unfit.Reception.{Reception}
use Rattle.compile_answers.specs.declared.unfit.Reception.TheVariants.{Good}
use Rattle.compile_answers.specs.declared.unfit.Unfit.{Unfit}
use Rattle.compile_answers.specs.declared.unfit.Unfit.TheVariants.{NotJson, BadDocument, Refused, NoMemory}
use Rattle.inspect_answers.specs.Answers.{Answer, IsUnfit, judged, judged_by, verdict_of}
use Rattle.inspect_answers.specs.Differences.{answered_by, to_document}

-- what is not fit is answered so, with the verdict on it
pub unfit_judged : {A : Type 0} (u : Unfit) (r : Taken A) (answer : A → Answer) → documents.IsUnfit u r → IsUnfit u (judged_by answer r)
unfit_judged u (Ok x) answer memory = subst (λ (v : Unfit). IsUnfit v (answer x)) (sym memory) tt
unfit_judged NotJson (Err a) answer e = ap judged e
unfit_judged (BadDocument f) (Err a) answer e = ap judged e
unfit_judged (Refused s) (Err a) answer e = ap judged e
unfit_judged NoMemory (Err a) answer e = tt

unfit_taken : (u : Unfit) (r : Taken Checked) (answer : Config → DocumentAnswer) → documents.IsUnfit u r → IsAnswered u (answered_by answer r)
unfit_taken u (Ok x) answer memory = subst (λ (v : Unfit). IsAnswered v (answer x.config)) (sym memory) tt
unfit_taken u (Err a) answer answered = answered

-- a document that is not fit is answered so, whatever would be answered to its configuration
pub unfit_document : (u : Unfit) (octets : List ℕ) → documents.IsUnfit u (taken_from compile_taken (json_of octets)) → (answer : Config → DocumentAnswer)
    → IsAnswered u (to_document answer octets)
unfolding to_document
unfit_document u octets unfit answer = unfit_taken u (taken_from compile_taken (json_of octets)) answer unfit

-- the answer to what is not fit, without the verdict
abbrev pub document : Unfit → Answer → DocumentAnswer
document NotJson answer = answer_not_json
document (BadDocument f) answer = answer_bad (fault_of f)
document (Refused r) answer = answer_refused r
document NoMemory answer = answer_good answer.text

pub is_answered : (unfit : Unfit) (answer : Answer) → IsAnswered unfit (document unfit answer)
is_answered NotJson answer = refl
is_answered (BadDocument f) answer = refl
is_answered (Refused r) answer = refl
is_answered NoMemory answer = tt

pub same_text : (unfit : Unfit) (answer : Answer) → IsUnfit unfit answer → (document unfit answer).text ≡ answer.text
same_text NotJson answer h = ap (λ (a : Answer). a.text) (sym h)
same_text (BadDocument f) answer h = ap (λ (a : Answer). a.text) (sym h)
same_text (Refused r) answer h = ap (λ (a : Answer). a.text) (sym h)
same_text NoMemory answer h = refl

pub same_verdict : (unfit : Unfit) (answer : Answer) (r : Reception) → IsUnfit unfit answer → r ≡ (document unfit answer).verdict → r ≢ Good
    → verdict_of r ≡ answer.verdict
same_verdict NotJson answer r h e other = ap verdict_of e ∙ ap (λ (a : Answer). a.verdict) (sym h)
same_verdict (BadDocument f) answer r h e other = ap verdict_of e ∙ ap (λ (a : Answer). a.verdict) (sym h)
same_verdict (Refused s) answer r h e other = ap verdict_of e ∙ ap (λ (a : Answer). a.verdict) (sym h)
same_verdict NoMemory answer r h e other = absurd (other e)
