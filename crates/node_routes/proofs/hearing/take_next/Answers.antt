use Rattle.bgp_wire.specs.Messages.{content_of}
use Rattle.node_routes.proofs.Steps.{takes_message, takes_fault}
use Rattle.node_routes.proofs.hearing.take_next.Goals as goal

pub returns-in_ok-event-in-Ok-Some-clause-next : goal.returns-in_ok-event-in-Ok-Some-clause-next
returns-in_ok-event-in-Ok-Some-clause-next c =
    takes_message _ _ _ (content_of c.in-Ok-Some.message) _ _ (rw c.in-Ok-Some.field-0-is at c.in-Ok-Some.ensures.message)
    c.in_ok-event-in-Ok-Some.ensures.ok

pub returns-in-Err-clause-next : goal.returns-in-Err-clause-next
returns-in-Err-clause-next c =
    takes_fault _ _ _ c.in-Err.fault _ c.in-Err.ensures.fault c.fault.ensures.state c.fault.ensures.event
