use Rattle.reach_plain.proofs.Kept.{valid}
use Rattle.hitless_cells.proofs.Offered.{offered}
use Rattle.hitless_cells.proofs.laws.ways_that_are_taken_are_offered.Goals as goal

pub returns : goal.returns
returns c = λ x p number way v. offered x (valid x.topology x.config v.valid) p number way
