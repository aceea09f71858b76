-- What is not fit leaves nothing, and promises nothing of answers.
use Rattle.std.specs.Prelude.{◌≡◌, ◌≢◌, IfOk}
use Rattle.std.specs.declared.option.Option.{Option}
use Rattle.std.specs.declared.option.Option.TheVariants.{None}
use Rattle.std.specs.declared.result.Result.{Result}
use Rattle.std.specs.declared.result.Result.TheVariants.{Ok, Err}
use Rattle.std.proofs.Common.{refl}
use Rattle.ov_io.specs.declared.pieces.WriteRefusal.{WriteRefusal}
use Rattle.compile_answers.specs.declared.unfit.Reception.{Reception}
use Rattle.compile_answers.specs.declared.unfit.Reception.TheVariants.{Good, NotJson, BadDocument, Refused}
use Rattle.compile_answers.specs.Leaving.{LeftOn, PromisedOn}

pub leaves_none : {A : Type 0} (Is : Option A → Type 0) (r : Result Reception WriteRefusal) (left : Option A)
    → IfOk r (λ v. v ≢ Good) → left ≡ None → LeftOn Is r left
leaves_none Is (Ok Good) left unfit none = absurd (unfit refl)
leaves_none Is (Ok NotJson) left unfit none = none
leaves_none Is (Ok BadDocument) left unfit none = none
leaves_none Is (Ok Refused) left unfit none = none
leaves_none Is (Err e) left unfit none = none

pub promises_none : (Promise : Type 0) (r : Result Reception WriteRefusal) → IfOk r (λ v. v ≢ Good) → PromisedOn Promise r
promises_none Promise (Ok Good) unfit = absurd (unfit refl)
promises_none Promise (Ok NotJson) unfit = tt
promises_none Promise (Ok BadDocument) unfit = tt
promises_none Promise (Ok Refused) unfit = tt
promises_none Promise (Err e) unfit = tt
