use Rattle.std.proofs.Common.{ap, subst, ◌∙◌}
use Rattle.std.specs.List.{flat_map}
use Rattle.net_machine.specs.Runs.{tied_moment}
use Rattle.ov_io.proofs.PieceLemmas.{on_err, way_breaks, way_goes_on}
use Rattle.compile_answers.proofs.LineLemmas.{drop_at}
use Rattle.top_call.specs.Constraint.{AreControlNodes, sent_by}
use Rattle.top_call.proofs.sending.write_sent.Goals as goal

pub write_sent_by-requires-clause-there : goal.write_sent_by-requires-clause-there
write_sent_by-requires-clause-there g c =
    let left = drop_at c.args.controllers.now c.loop-controller.controller-index c.controller-item.result c.loop-controller-test.true c.controller-item.is in
    (subst (AreControlNodes (tied_moment c.args.net.now.opening c.args.net.now.events).network.setup.topology) left c.loop-controller.invariant.there).0

pub returns-in_err-write_sent_by-clause-front : goal.returns-in_err-write_sent_by-clause-front
returns-in_err-write_sent_by-clause-front g c =
    let left = drop_at c.args.controllers.now c.loop-controller.controller-index c.controller-item.result c.loop-controller-test.true c.controller-item.is in
    on_err c.from_residual.result _ (way_breaks _ _ _ _ _ _ _ _ c.loop-controller.invariant.way
    (ap (flat_map (sent_by (tied_moment c.args.net.now.opening c.args.net.now.events).network c.args.askings.now)) left) c.in_err-write_sent_by.ensures.front)

pub loop-controller-preserved : goal.loop-controller-preserved
loop-controller-preserved g c =
    let left = drop_at c.args.controllers.now c.loop-controller.controller-index c.controller-item.result c.loop-controller-test.true c.controller-item.is in
    record {
      way = way_goes_on _ _ _ _ _ _ _ _ _ c.loop-controller.invariant.way
          (ap (flat_map (sent_by (tied_moment c.args.net.now.opening c.args.net.now.events).network c.args.askings.now)) left) c.in_ok-write_sent_by.ensures.ok;
      kept = c.in_ok-write_sent_by.ensures.cause ∙ c.loop-controller.invariant.kept;
      there = (subst (AreControlNodes (tied_moment c.args.net.now.opening c.args.net.now.events).network.setup.topology) left c.loop-controller.invariant.there).1;
    }
