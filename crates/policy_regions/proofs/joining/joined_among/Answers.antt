use Rattle.std.proofs.Common.{◌≡◌, ap, sym, ◌∙◌, ◌+◌, ◌++◌, List, drop}
use Rattle.std.proofs.lemmas.List.{at_drop_all}
use Rattle.ov_types.proofs.FirstLemmas.{next_is}
use Rattle.policy_regions.specs.Joining.{among}
use Rattle.policy_regions.specs.declared.region.DecidedRegion.{DecidedRegion}
use Rattle.policy_regions.proofs.joining.joined_among.Goals as goal

pub loop-other-preserved : goal.loop-other-preserved
loop-other-preserved c =
    let items = c.args.others.now in
    let k = c.loop-other.other-index in
    let so_far : c.loop-other.apart.items ++ among c.loop-other.region (drop k items) ≡ among c.args.region.now items = c.loop-other.invariant in
    c.in_ok-join_or_push.ensures (drop (k + 1) items)
    ∙ ap (λ (l : List DecidedRegion). c.loop-other.apart.items ++ among c.loop-other.region l) (sym (next_is items k c.other-item.result c.loop-other-test.true c.other-item.is))
    ∙ so_far

pub returns : goal.returns
returns c =
    let items = c.args.others.now in
    let k = c.loop-other.other-index in
    let so_far : c.loop-other.apart.items ++ among c.loop-other.region (drop k items) ≡ among c.args.region.now items = c.loop-other.invariant in
    c.in_ok-push.ensures.items
    ∙ sym (at_drop_all (λ (l : List DecidedRegion). c.loop-other.apart.items ++ among c.loop-other.region l) items k c.loop-other-test.false)
    ∙ so_far
