use Rattle.std.proofs.lemmas.Result.{err_from_is_err_and}
use Rattle.config_model.specs.Paths.{place_text}
use Rattle.config_model.proofs.Lists.{goes_on, is_done, stops}
use Rattle.inspect_answers.specs.Expectations.{service_number_at}
use Rattle.inspect_answers.proofs.expect_reader.service_numbers_of.Goals as goal

pub returns-in_err-service_number_of : goal.returns-in_err-service_number_of
returns-in_err-service_number_of c =
    let p = err_from_is_err_and c.from_residual.result c.from_residual.ensures.1 in
    rw (p.1, p.2) (stops c.in_err-service_number_of.field-0.0 service_number_at (place_text c.args.place.now) c.loop-index.services c.args.values.now c.loop-index.index
    c.index-values-index.result _ c.loop-index-test.true c.index-values-index.is c.in_err-service_number_of.ensures c.loop-index.invariant)

pub loop-index-preserved : goal.loop-index-preserved
loop-index-preserved c =
    rw c.in_ok-push.ensures.ok (goes_on service_number_at (place_text c.args.place.now) c.loop-index.services c.args.values.now c.loop-index.index
    c.index-values-index.result c.in_ok-service_number_of.field-0 _ c.loop-index-test.true c.index-values-index.is c.in_ok-service_number_of.ensures
    c.loop-index.invariant)

pub returns : goal.returns
returns c =
    is_done service_number_at (place_text c.args.place.now) c.loop-index.services c.args.values.now c.loop-index.index _ c.loop-index-test.false c.loop-index.invariant
