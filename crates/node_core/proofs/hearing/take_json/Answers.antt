use Rattle.std.proofs.Common.{IsTrue, arith}
use Rattle.item_wire.specs.Inputs.{may_send}
use Rattle.node_core.specs.Told.{IsWritable}
use Rattle.node_core.proofs.Hearings.{handed_out_has}
use Rattle.node_core.proofs.hearing.take_json.Goals as goal

pub returns-in-Ok-clause-sent : goal.returns-in-Ok-clause-sent
returns-in-Ok-clause-sent c =
    handed_out_has (λ i. IsTrue (may_send c.args.session.now.from i)) c.args.session.now c.in-Ok.item _ c.take_item.ensures.event (λ may. may)

pub returns-in-Ok-clause-writable : goal.returns-in-Ok-clause-writable
returns-in-Ok-clause-writable c =
    handed_out_has IsWritable c.args.session.now c.in-Ok.item _ c.take_item.ensures.event (λ may. record { in_range = c.in-Ok.ensures.form; short = omega (arith, c.in-Ok.ensures.length, c.requires) })
