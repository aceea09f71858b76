use Rattle.reach_plain.proofs.Kept.{valid}
use Rattle.hitless_cells.proofs.Alone.{one_way}
use Rattle.hitless_cells.proofs.laws.packets_are_led_by_one_way.Goals as goal

pub returns : goal.returns
returns c = λ x p number other way another v. one_way x (valid x.topology x.config v.valid) v.form p number other way another
