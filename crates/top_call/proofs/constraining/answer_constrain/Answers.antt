use Rattle.std.proofs.Common.{rules}
use Rattle.top_call.proofs.ConstraintEnding.{constraint_promised, left_settled}
use Rattle.top_call.proofs.constraining.answer_constrain.Goals as goal

pub returns-in_ok-settled-in-Ok-clause-network : goal.returns-in_ok-settled-in-Ok-clause-network
returns-in_ok-settled-in-Ok-clause-network g c = λ good.
    left_settled c.args.octets.now c.in-Ok.valid c.in_ok-settled-in-Ok.settled _ c.in-Ok.ensures.read c.in_ok-settled-in-Ok.ensures.settled (search rules)

pub returns-in_ok-settled-in-Ok-clause-promise : goal.returns-in_ok-settled-in-Ok-clause-promise
returns-in_ok-settled-in-Ok-clause-promise g c = λ good.
    constraint_promised c.args.octets.now _ _ c.in-Ok.valid c.in-Ok.ensures.read c.know_valid.ensures c.in_ok-settled-in-Ok.ensures.ok
    c.in_ok-settled-in-Ok.ensures.enough
