use Rattle.std.proofs.Common.{arith}
use Rattle.std.proofs.lemmas.Result.{err_from_is_err_and}
use Rattle.bgp_wire.proofs.Framing.{begins_with, body_fault}
use Rattle.bgp_wire.proofs.message.read.Goals as goal

pub returns-in_err-message-clause-fault : goal.returns-in_err-message-clause-fault
returns-in_err-message-clause-fault c =
    let p = err_from_is_err_and c.from_residual-in_err-message.result c.from_residual-in_err-message.ensures.1 in
    let found = rw c.in-Some.is at c.in_ok-head.ensures.head in
    rw (p.1, p.2) (body_fault c.args.bytes.now c.in-Some.head.kind c.in-Some.head.len _ (λ k. omega (arith, c.type_inv.bytes k))
    c.in_ok-head.ensures.checks found (omega arith) c.in_err-message.ensures.fault)

pub returns-clause-message : goal.returns-clause-message
returns-clause-message c =
    let found = rw c.in-Some.is at c.in_ok-head.ensures.head in
    begins_with c.args.bytes.now c.in-Some.head.kind c.in-Some.head.len _ (λ k. omega (arith, c.type_inv.bytes k))
    c.in_ok-head.ensures.checks found (omega arith) c.in_ok-message.ensures.message
