use Rattle.std.proofs.Common.{◌≡◌, ℕ, List, subst}
use Rattle.std.specs.Io.KnownBytes.{Appends}
use Rattle.inspect_changes.specs.DifferenceLines.{lists_text}
use Rattle.inspect_json.specs.ChangeLines.{lists_in}
use Rattle.inspect_answers.specs.Differences.{SaysWhether}
use Rattle.inspect_changes.specs.Fates.{all_differences}
use Rattle.inspect_changes.specs.Objects.{gone}
use Rattle.inspect_answers.proofs.Changed.{took, valid_in}
use Rattle.inspect_answers.proofs.diffing.write_differences.Goals as goal

pub returns-clause-promise : goal.returns-clause-promise
returns-clause-promise g c = λ first second read_first read_second.
    let v = c.args.before.now in
    let w = c.args.after.now in
    let found = c.in_ok-found.found in
    let formed : lists_in c.args.form c.config.result.now c.config-2.result.now found.went.items found.came.items found.differences.items ≡ lists_in c.args.form v.config w.config (gone v.config w.config) (gone w.config v.config) (all_differences v.config w.config) =
    (λ i. lists_in c.args.form (c.config.ensures.part i) (c.config-2.ensures.part i) (c.in_ok-found.ensures.went i) (c.in_ok-found.ensures.came i) (c.in_ok-found.ensures.differences i)) in
    let texts : lists_text found.went.items found.came.items found.differences.items ≡ lists_text (gone v.config w.config) (gone w.config v.config) (all_differences v.config w.config) =
    (λ i. lists_text (c.in_ok-found.ensures.went i) (c.in_ok-found.ensures.came i) (c.in_ok-found.ensures.differences i)) in
    took c.args.form c.comparison_of.result v w first second (g.K.Sink.taken c.args.sink.now) (g.K.Sink.taken c.write_found.new.sink)
    (valid_in first v read_first c.config.ensures.config_form c.config.ensures.valid)
    (valid_in second w read_second c.config-2.ensures.config_form c.config-2.ensures.valid)
    (subst (λ (t : List ℕ). SaysWhether c.comparison_of.result t) texts c.comparison_of.ensures)
    (subst (λ (t : List ℕ). Appends (g.K.Sink.taken c.args.sink.now) (g.K.Sink.taken c.write_found.new.sink) t) formed c.in_ok-write_found.ensures.ok)
