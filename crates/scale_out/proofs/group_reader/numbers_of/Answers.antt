use Rattle.std.proofs.Common.{arith, nat_le}
use Rattle.std.proofs.lemmas.Result.{err_from_is_err_and}
use Rattle.std.proofs.lemmas.Grind.{common_steps}
use Rattle.config_model.specs.Fields.{whole_at}
use Rattle.config_model.specs.Paths.{place_text}
use Rattle.config_model.proofs.Lists.{goes_on, stops, is_done, form_goes_on}
use Rattle.scale_out.proofs.group_reader.numbers_of.Goals as goal

pub returns-in_err-number_of-clause-reads : goal.returns-in_err-number_of-clause-reads
returns-in_err-number_of-clause-reads c =
    let p = err_from_is_err_and c.from_residual.result c.from_residual.ensures.1 in
    rw (p.1, p.2) (stops c.in_err-number_of.field-0.0 (whole_at 0 65535) (place_text c.args.place.now) c.loop-index.numbers c.args.values.now c.loop-index.index c.index-values-index.result _
    c.loop-index-test.true c.index-values-index.is c.in_err-number_of.ensures.reads c.loop-index.invariant.so_far)

pub loop-index-preserved : goal.loop-index-preserved
loop-index-preserved c =
    rw c.in_ok-push.ensures.ok (record {
      so_far = goes_on (whole_at 0 65535) (place_text c.args.place.now) c.loop-index.numbers c.args.values.now c.loop-index.index c.index-values-index.result c.in_ok-number_of.field-0 _
          c.loop-index-test.true c.index-values-index.is c.in_ok-number_of.ensures.reads c.loop-index.invariant.so_far;
      form = form_goes_on (λ n. nat_le n 65535) c.loop-index.numbers c.in_ok-number_of.field-0 c.loop-index.invariant.form c.in_ok-number_of.ensures.form;
      size = grind (arith, common_steps, c.loop-index.invariant.size);
    })

pub returns-clause-reads : goal.returns-clause-reads
returns-clause-reads c = is_done (whole_at 0 65535) (place_text c.args.place.now) c.loop-index.numbers c.args.values.now c.loop-index.index _ c.loop-index-test.false c.loop-index.invariant.so_far
