use Rattle.std.proofs.Common.{rules}
use Rattle.top_call.proofs.Ending.{run_left, run_promised}
use Rattle.top_call.proofs.running.answer_run.Goals as goal

pub returns-in_ok-took-in-Ok-clause-network : goal.returns-in_ok-took-in-Ok-clause-network
returns-in_ok-took-in-Ok-clause-network g c =
    run_left c.args.octets.now c.in-Ok.field-0.valid c.in-Ok.field-0.events c.into_vec.result.items c.in_ok-took-in-Ok.took _ c.in-Ok.ensures.read (search rules)
    c.in_ok-took-in-Ok.ensures.took (search rules)

pub returns-in_ok-took-in-Ok-clause-promise : goal.returns-in_ok-took-in-Ok-clause-promise
returns-in_ok-took-in-Ok-clause-promise g c =
    run_promised c.args.octets.now _ _ c.in-Ok.field-0.valid c.in-Ok.field-0.events c.into_vec.result.items c.in-Ok.ensures.read c.know_valid.ensures c.in-Ok.ensures.form
    (search rules) c.in_ok-took-in-Ok.ensures.ok
