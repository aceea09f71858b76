use Rattle.std.proofs.Common.{◌||◌, ◌+◌, ℕ, Bool, List, drop, sym, ap, ◌∙◌}
use Rattle.std.specs.BTreeSet.{contains}
use Rattle.std.specs.Cmp.Lexicographic.{slice_cmp}
use Rattle.std.specs.List.{list_any}
use Rattle.std.specs.Ordering.{nat_cmp}
use Rattle.ov_types.specs.First.{same_name}
use Rattle.ov_types.proofs.FirstLemmas.{next_is}
use Rattle.config_check.proofs.Keyed.{known_more}
use Rattle.config_check.proofs.known.set_of.Goals as goal

pub loop-name-preserved : goal.loop-name-preserved
loop-name-preserved c = λ q.
    let names = c.args.names.now in
    let i = c.loop-name.name-index in
    let name = c.name-item.result in
    let before = contains (slice_cmp nat_cmp) c.loop-name.known q in
    let later = list_any (same_name q) (drop (i + 1) names) in
    ap (λ (b : Bool). b || later) (c.in_ok-insert.ensures.updates.0 q) ∙ known_more before later name q
    ∙ ap (λ (xs : List (List ℕ)). before || list_any (same_name q) xs) (sym (next_is names i name c.loop-name-test.true c.name-item.is))
    ∙ c.loop-name.invariant q
