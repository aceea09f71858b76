use Rattle.scenario_gen.proofs.Loops.{numbered_goes_on}
use Rattle.scenario_gen.proofs.listing.all_numbered.Goals as goal

pub loop-number-preserved : goal.loop-number-preserved
loop-number-preserved g c =
    rw c.in_ok-push.ensures.ok (numbered_goes_on (g.T.Numbered.by_number c.args.scenario) c.loop-number.items _ c.in_ok-numbered.field-0 c.loop-number.number _
    c.loop-number-test.true c.in_ok-numbered.ensures c.loop-number.invariant)
