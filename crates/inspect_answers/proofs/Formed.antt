-- What an input is read as has a configuration of the written form, where one reading of it has.
use Rattle.std.proofs.Common.{◌≡◌, true, List, ℕ, Some, Result, Ok, Err, sym, ap, ◌∙◌, subst}
use Rattle.std.specs.Prelude.{IfOk}
use Rattle.serde_json.specs.Data.{Data}
use Rattle.ov_io.specs.Json.{json_of}
use Rattle.config_types.specs.Form.{has_config_form}
use Rattle.config_types.specs.declared.config.Config.{Config}
use Rattle.config_model.specs.Faults.{Fault}
use Rattle.compile_answers.specs.Answers.{AreDocument}
use Rattle.inspect_answers.specs.Answers.{IsAnswer}
use Rattle.inspect_answers.specs.InForm.{AreInForm}
use Rattle.inspect_answers.specs.declared.verdict.Verdict.{Verdict}

some_is : {A : Type 0} (x y : A) → Some x ≡ Some y → x ≡ y
some_is x y h = cc

ok_is : {A E : Type 0} (x y : A) (r s : Result A E) → r ≡ s → r ≡ Ok x → s ≡ Ok y → x ≡ y
ok_is x y r s same h k = cc

-- what was read has a configuration of the written form, and nothing else can be read
pub are_in_form : {Input : Type 0} (read : Data → Result Input Fault) (config : Input → Config) (octets : List ℕ) (input : Input)
    → AreDocument octets (λ d. read d ≡ Ok input) → has_config_form (config input) ≡ true → AreInForm read config octets
unfolding AreInForm
are_in_form {Input} read config octets input document form d json other e =
    let same = ap read (some_is document.value d (sym document.json ∙ json)) in
    subst (λ (x : Input). has_config_form (config x) ≡ true) (ok_is input other (read document.value) (read d) same document.is e) form

pub in_form : {Input : Type 0} (read : Data → Result Input Fault) (config : Input → Config) (octets : List ℕ) (d : Data) (input : Input)
    → AreInForm read config octets → json_of octets ≡ Some d → read d ≡ Ok input → has_config_form (config input) ≡ true
unfolding AreInForm
in_form read config octets d input h e f = h d e input f

-- where something is answered, or not

pub where_answered : {E : Type 0} (r : Result Verdict E) (P : Type 0) → P → IfOk r (λ verdict. IsAnswer verdict → P)
where_answered (Ok verdict) P h = λ answers. h
where_answered (Err e) P h = tt

pub never_answered : {E : Type 0} (r : Result Verdict E) (P : Type 0) → IfOk r (λ verdict. ¬ IsAnswer verdict) → IfOk r (λ verdict. IsAnswer verdict → P)
never_answered (Ok verdict) P h = λ answers. absurd (h answers)
never_answered (Err e) P h = tt
