use Rattle.reach_plain.proofs.Kept.{valid}
use Rattle.hitless_cells.proofs.Alone.{one_track}
use Rattle.hitless_cells.proofs.laws.ways_are_offered_with_one_track.Goals as goal

pub returns : goal.returns
returns c = λ x p number way one two v. one_track x (valid x.topology x.config v.valid) v.form p number way one two
