-- What a command leaves behind, and promises, where its answer is good.
use Rattle.std.specs.Prelude.{◌≡◌, ⊤}
use Rattle.std.specs.declared.option.Option.{Option}
use Rattle.std.specs.declared.option.Option.TheVariants.{None}
use Rattle.std.specs.declared.result.Result.{Result}
use Rattle.std.specs.declared.result.Result.TheVariants.{Ok}
use Rattle.ov_io.specs.declared.pieces.WriteRefusal.{WriteRefusal}
use Rattle.compile_answers.specs.declared.unfit.Reception.{Reception}
use Rattle.compile_answers.specs.declared.unfit.Reception.TheVariants.{Good}

-- something is left where the answer is good, and this is said of it
abbrev pub LeftOn : {A : Type 0} → (Option A → Type 0) → Result Reception WriteRefusal → Option A → Type 0
LeftOn Is (Ok Good) left = Is left
LeftOn Is result left = left ≡ None

-- what is promised where the answer is good
abbrev pub PromisedOn : Type 0 → Result Reception WriteRefusal → Type 0
PromisedOn Promise (Ok Good) = Promise
PromisedOn Promise result = ⊤
