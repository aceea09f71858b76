-- What is promised of the answer to edits, by what was received.
use Rattle.std.proofs.Common.{◌≡◌, refl}
use Rattle.compile_answers.specs.declared.unfit.Reception.{Reception}
use Rattle.compile_answers.specs.declared.unfit.Reception.TheVariants.{Good, NotJson, BadDocument, Refused}
use Rattle.inspect_answers.specs.Answers.{IsAnswer, verdict_of}
use Rattle.inspect_answers.specs.Runs.{status_of}
use Rattle.inspect_answers.specs.declared.top.Status.TheVariants as Ended

pub kept_where_good : (r : Reception) (P : Type 0) → (r ≡ Good → P) → IsAnswer (verdict_of r) → (status_of (verdict_of r) ≡ Ended.Done) × P
kept_where_good Good P h is = (refl, h refl)
kept_where_good NotJson P h is = absurd is
kept_where_good BadDocument P h is = absurd is
kept_where_good Refused P h is = absurd is
