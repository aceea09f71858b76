use Rattle.hitless_cells.proofs.Taken.{led_where_delivered}
use Rattle.hitless_cells.proofs.laws.packets_are_led_where_they_are_delivered.Goals as goal

pub returns : goal.returns
returns c = λ x p number v. led_where_delivered x v p number
