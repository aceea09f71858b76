use Rattle.std.proofs.Common.{◌≡◌, ◌-◌, length, take, drop, length-drop, take-add, arith, ◌∙◌}
use Rattle.std.proofs.lemmas.List.{take_all}
use Rattle.std.proofs.KnownBytes.{Appends-trans}
use Rattle.ov_io.proofs.sink.write_all.Goals as goal

pub loop-done-preserved : goal.loop-done-preserved
loop-done-preserved g c =
    let text = c.args.text.now in
    let done = c.loop-done.done in
    let count = c.in_ok-count.count in
    let whole : take (length text - done) (drop done text) ≡ drop done text = take_all _ _ (omega (arith, length-drop done text)) in
    record {
      fits = omega (arith, length-drop done text, c.in_ok-count.ensures.bound);
      taken = rw (take-add done count text, ← whole) (Appends-trans _ _ _ _ _ c.loop-done.invariant.taken c.in_ok-count.ensures.bytes);
      same = c.in_ok-count.ensures.cause.kept ∙ c.loop-done.invariant.same;
    }
