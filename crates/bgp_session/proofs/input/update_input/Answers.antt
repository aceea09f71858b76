use Rattle.std.proofs.Common.{refl}
use Rattle.bgp_session.specs.Inputs.{right, wrong}
use Rattle.bgp_session.proofs.input.update_input.Goals as goal

pub returns-in-Ok : goal.returns-in-Ok
returns-in-Ok c = right c.in-Ok.deltas.items c.in-Ok.ensures.changes refl

pub returns-in-Err-Wire : goal.returns-in-Err-Wire
returns-in-Err-Wire c = wrong c.in-Err-Wire.fault (rw c.in-Err-Wire.field-0-is at c.in-Err-Wire.ensures.fault) refl
