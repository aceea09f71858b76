use Rattle.std.proofs.Common.{sym}
use Rattle.node_core.proofs.Hearings.{brought_by_json}
use Rattle.node_core.proofs.hearing.take_record.Goals as goal

pub returns-in_ok-event-in-Ok-Some-clause-brings : goal.returns-in_ok-event-in-Ok-Some-clause-brings
returns-in_ok-event-in-Ok-Some-clause-brings c =
    let framed = rw c.in-Ok-Some.field-0-is at c.in-Ok-Some.ensures in
    (_, brought_by_json c.args.session.now c.args.bytes.now c.in-Ok-Some.json.now (sym framed), c.in_ok-event-in-Ok-Some.ensures.state, c.in_ok-event-in-Ok-Some.ensures.event)
