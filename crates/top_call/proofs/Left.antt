-- What is left and promised, by whether the answer is good.
use Rattle.std.specs.Prelude.{◌≡◌, ◌≢◌}
use Rattle.std.specs.declared.option.Option.{Option}
use Rattle.std.specs.declared.option.Option.TheVariants.{None}
use Rattle.std.specs.declared.result.Result.{Result}
use Rattle.std.specs.declared.result.Result.TheVariants.{Ok, Err}
use Rattle.std.proofs.Common.{refl, ◌∙◌}
use Rattle.ov_io.specs.declared.pieces.WriteRefusal.{WriteRefusal}
use Rattle.net_machine.specs.NetState.{NetState}
use Rattle.compile_answers.specs.declared.unfit.Reception.{Reception}
use Rattle.compile_answers.specs.declared.unfit.Reception.TheVariants.{Good, NotJson, BadDocument, Refused}
use Rattle.compile_answers.specs.Leaving.{LeftOn, PromisedOn}

-- a network is left where the answer is good, and else none
pub left_on : (Is : Option NetState → Type 0) (r : Result Reception WriteRefusal) (old left : Option NetState) → old ≡ None
    → (r ≡ Ok Good → Is left) → (r ≢ Ok Good → left ≡ old) → LeftOn Is r left
left_on Is (Ok Good) old left none good other = good refl
left_on Is (Ok NotJson) old left none good other = other (λ e. cc) ∙ none
left_on Is (Ok BadDocument) old left none good other = other (λ e. cc) ∙ none
left_on Is (Ok Refused) old left none good other = other (λ e. cc) ∙ none
left_on Is (Err f) old left none good other = other (λ e. cc) ∙ none

pub promised_on : (Promise : Type 0) (r : Result Reception WriteRefusal) → (r ≡ Ok Good → Promise) → PromisedOn Promise r
promised_on Promise (Ok Good) good = good refl
promised_on Promise (Ok NotJson) good = tt
promised_on Promise (Ok BadDocument) good = tt
promised_on Promise (Ok Refused) good = tt
promised_on Promise (Err f) good = tt

-- what is left, and what is promised
pub ruleset left_or_none = (left_on, promised_on)
