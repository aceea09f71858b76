use Rattle.std.proofs.Common.{arith}
use Rattle.std.proofs.lemmas.Grind.{common_steps}
use Rattle.item_wire.proofs.Lists.{goes_on, stops, is_done, fit_goes_on}
use Rattle.item_wire.proofs.list.all_from.Goals as goal

pub returns-in-None-clause-reads : goal.returns-in-None-clause-reads
returns-in-None-clause-reads g c =
    stops g.T.Entry.reads c.loop-value.items c.args.values.now c.loop-value.value-index c.value-item.result _ c.loop-value-test.true c.value-item.is c.in-None.ensures.reads c.loop-value.invariant.so_far

pub loop-value-preserved : goal.loop-value-preserved
loop-value-preserved g c =
    rw c.in_ok-push-in-Some.ensures.ok (record {
      so_far = goes_on g.T.Entry.reads c.loop-value.items c.args.values.now c.loop-value.value-index c.value-item.result c.in-Some.item _ c.loop-value-test.true c.value-item.is c.in-Some.ensures.reads c.loop-value.invariant.so_far;
      form = fit_goes_on g.T.Entry.is_fit c.loop-value.items c.in-Some.item c.loop-value.invariant.form c.in-Some.ensures.form;
      size = grind (arith, common_steps, c.loop-value.invariant.size);
    })

pub returns-clause-reads : goal.returns-clause-reads
returns-clause-reads g c = is_done g.T.Entry.reads c.loop-value.items c.args.values.now c.loop-value.value-index _ c.loop-value-test.false c.loop-value.invariant.so_far
