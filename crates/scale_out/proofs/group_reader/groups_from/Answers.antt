use Rattle.std.proofs.lemmas.Result.{err_from_is_err_and}
use Rattle.config_model.specs.Paths.{place_text}
use Rattle.config_model.proofs.Lists.{form_goes_on}
use Rattle.scale_out.specs.Form.{has_group_form}
use Rattle.scale_out.proofs.GroupsRead.{goes_on, stops, is_done}
use Rattle.scale_out.proofs.group_reader.groups_from.Goals as goal

pub returns-in_err-next-clause-reads : goal.returns-in_err-next-clause-reads
returns-in_err-next-clause-reads c =
    let p = err_from_is_err_and c.from_residual.result c.from_residual.ensures.1 in
    rw (p.1, p.2) (stops c.args.config.now (place_text c.args.place.now) c.loop-index.groups c.args.values.now c.loop-index.index _ c.loop-index.invariant.so_far
    c.in_err-next.field-0.0 _ c.index-values-index.result c.as_slice.ensures c.loop-index-test.true c.index-values-index.is c.in_err-next.ensures.reads)

pub loop-index-preserved : goal.loop-index-preserved
loop-index-preserved c =
    rw c.in_ok-push.ensures.ok (record {
      so_far = goes_on c.args.config.now (place_text c.args.place.now) c.loop-index.groups c.args.values.now c.loop-index.index _ c.loop-index.invariant.so_far
          _ c.index-values-index.result c.in_ok-next.next c.as_slice.ensures c.loop-index-test.true c.index-values-index.is c.in_ok-next.ensures.reads;
      form = form_goes_on has_group_form c.loop-index.groups c.in_ok-next.next c.loop-index.invariant.form c.in_ok-next.ensures.form;
    })

pub returns-clause-reads : goal.returns-clause-reads
returns-clause-reads c = is_done c.args.config.now (place_text c.args.place.now) c.loop-index.groups c.args.values.now c.loop-index.index _ c.loop-index.invariant.so_far c.loop-index-test.false
