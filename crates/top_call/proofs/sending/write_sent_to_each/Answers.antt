use Rattle.std.proofs.Common.{ap, subst, ◌∙◌}
use Rattle.std.specs.List.{flat_map}
use Rattle.ov_io.proofs.PieceLemmas.{on_err, way_breaks, way_goes_on}
use Rattle.vpn_tables.specs.Views.{peer_of}
use Rattle.compile_answers.proofs.LineLemmas.{drop_at}
use Rattle.top_call.specs.Constraint.{AreInForm, sent_to}
use Rattle.top_call.proofs.sending.write_sent_to_each.Goals as goal

pub write_sent_to-requires : goal.write_sent_to-requires
write_sent_to-requires g c =
    let left = drop_at c.args.askings.now c.loop-asking.asking-index c.asking-item.result c.loop-asking-test.true c.asking-item.is in
    (subst AreInForm left c.loop-asking.invariant.form).0

pub returns-in_err-write_sent_to-clause-front : goal.returns-in_err-write_sent_to-clause-front
returns-in_err-write_sent_to-clause-front g c =
    let left = drop_at c.args.askings.now c.loop-asking.asking-index c.asking-item.result c.loop-asking-test.true c.asking-item.is in
    on_err c.from_residual.result _ (way_breaks _ _ _ _ _ _ _ _ c.loop-asking.invariant.way
    (ap (flat_map (sent_to c.args.from.now (peer_of c.args.routes.now.entries))) left) c.in_err-write_sent_to.ensures.front)

pub loop-asking-preserved : goal.loop-asking-preserved
loop-asking-preserved g c =
    let left = drop_at c.args.askings.now c.loop-asking.asking-index c.asking-item.result c.loop-asking-test.true c.asking-item.is in
    record {
      way = way_goes_on _ _ _ _ _ _ _ _ _ c.loop-asking.invariant.way
          (ap (flat_map (sent_to c.args.from.now (peer_of c.args.routes.now.entries))) left) c.in_ok-write_sent_to.ensures.ok;
      kept = c.in_ok-write_sent_to.ensures.cause ∙ c.loop-asking.invariant.kept;
      form = (subst AreInForm left c.loop-asking.invariant.form).1;
    }
