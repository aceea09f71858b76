use Rattle.hitless_cells.proofs.Hands.{keeps_in_hand}
use Rattle.hitless_cells.proofs.laws.one_edit_keeps_addresses_in_hand.Goals as goal

pub returns : goal.returns
returns c = λ x e p number way track. keeps_in_hand p number way track x e
