use Rattle.item_wire.proofs.Passing.{others_are_passed_over}
use Rattle.item_wire.proofs.laws.other_members_are_passed_over.Goals as goal

pub returns : goal.returns
returns c = others_are_passed_over
