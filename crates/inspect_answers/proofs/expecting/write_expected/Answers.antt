use Rattle.std.proofs.Common.{◌≡◌, ◌==◌, ◌++◌, ℕ, Bool, true, false, cond, List, [], length, refl, ap, sym, subst, ◌∙◌}
use Rattle.ov_io.specs.Inputs.{TookFront}
use Rattle.ov_io.specs.Pieces.{IsOnItsWay}
use Rattle.ov_io.proofs.PieceLemmas.{on_err, way_cut, way_ends}
use Rattle.compile_answers.proofs.Ways.{front_then, way_then}
use Rattle.inspect_answers.specs.Expecting.{all_met, counts_in, expect_in, unmet_from}
use Rattle.inspect_answers.specs.declared.verdict.Verdict.TheVariants.{Good, Differs}
use Rattle.inspect_answers.proofs.Counting.{none_counted, not_none}
use Rattle.inspect_answers.proofs.expecting.write_expected.Goals as goal

pub returns-in_err-write_one-clause-front : goal.returns-in_err-write_one-clause-front
unfolding expect_in
returns-in_err-write_one-clause-front g c =
    let unmet = unmet_from c.args.form c.args.valid.now.config 1 c.args.packets.now in
    let same = ap (λ (n : ℕ). unmet ++ counts_in c.args.form (length c.args.packets.now) n) c.in_ok-count.ensures.count in
    let stop = front_then _ _ _ _ _ _ _ c.in_ok-count.ensures.ok c.in_err-write_one.ensures.front in
    on_err c.from_residual-in_err-write_one.result _
    (subst (λ (t : List ℕ). TookFront (g.K.Sink.taken c.args.sink.now) (g.K.Sink.taken c.write_one.new.sink) t)
    (λ i. c.new-gathered.ensures i ++ same i) stop)

pub returns-in_err-write_gathered-clause-front : goal.returns-in_err-write_gathered-clause-front
unfolding expect_in
returns-in_err-write_gathered-clause-front g c =
    let unmet = unmet_from c.args.form c.args.valid.now.config 1 c.args.packets.now in
    let same = ap (λ (n : ℕ). unmet ++ counts_in c.args.form (length c.args.packets.now) n) c.in_ok-count.ensures.count in
    let way = way_then _ _ _ _ _ _ _ _ c.in_ok-count.ensures.ok c.in_ok-write_one.ensures.ok in
    let whole = subst (λ (t : List ℕ). IsOnItsWay (g.K.Sink.taken c.args.sink.now) (g.K.Sink.taken c.write_one.new.sink) c.write_one.new.gathered [] t)
    (λ i. c.new-gathered.ensures i ++ same i) way in
    on_err c.from_residual-in_err-write_gathered.result _ (way_cut _ _ _ _ _ _ whole c.in_err-write_gathered.ensures.front)

pub returns-then-count-eq0-clause-given : goal.returns-then-count-eq0-clause-given
unfolding expect_in
returns-then-count-eq0-clause-given g c =
    let config = c.args.valid.now.config in
    let packets = c.args.packets.now in
    let unmet = unmet_from c.args.form config 1 packets in
    let same = ap (λ (n : ℕ). unmet ++ counts_in c.args.form (length packets) n) c.in_ok-count.ensures.count in
    let way = way_then _ _ _ _ _ _ _ _ c.in_ok-count.ensures.ok c.in_ok-write_one.ensures.ok in
    let whole = subst (λ (t : List ℕ). IsOnItsWay (g.K.Sink.taken c.args.sink.now) (g.K.Sink.taken c.write_one.new.sink) c.write_one.new.gathered [] t)
    (λ i. c.new-gathered.ensures i ++ same i) way in
    let met : true ≡ all_met config packets =
    ap (λ (n : ℕ). n == 0) (sym c.if-count-eq0.true) ∙ ap (λ (n : ℕ). n == 0) c.in_ok-count.ensures.count ∙ none_counted config packets in
    record {
      is = ap (λ (b : Bool). cond b Good Differs) met;
      taken = way_ends _ _ _ _ _ _ whole refl c.in_ok-write_gathered.ensures.ok;
    }

pub returns-clause-given : goal.returns-clause-given
unfolding expect_in
returns-clause-given g c =
    let config = c.args.valid.now.config in
    let packets = c.args.packets.now in
    let unmet = unmet_from c.args.form config 1 packets in
    let same = ap (λ (n : ℕ). unmet ++ counts_in c.args.form (length packets) n) c.in_ok-count.ensures.count in
    let way = way_then _ _ _ _ _ _ _ _ c.in_ok-count.ensures.ok c.in_ok-write_one.ensures.ok in
    let whole = subst (λ (t : List ℕ). IsOnItsWay (g.K.Sink.taken c.args.sink.now) (g.K.Sink.taken c.write_one.new.sink) c.write_one.new.gathered [] t)
    (λ i. c.new-gathered.ensures i ++ same i) way in
    let unmet_one : false ≡ all_met config packets =
    not_none c.in_ok-count.count c.if-count-eq0.false ∙ ap (λ (n : ℕ). n == 0) c.in_ok-count.ensures.count ∙ none_counted config packets in
    record {
      is = ap (λ (b : Bool). cond b Good Differs) unmet_one;
      taken = way_ends _ _ _ _ _ _ whole refl c.in_ok-write_gathered.ensures.ok;
    }
