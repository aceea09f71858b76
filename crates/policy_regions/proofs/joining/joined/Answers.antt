use Rattle.std.proofs.Common.{◌≡◌, ◌+◌, ◌-◌, ◌≤◌, ◌<◌, length, List, [], ap, sym, ◌∙◌, arith}
use Rattle.policy_regions.specs.Joining.{all_among, joined, joined_within}
use Rattle.policy_regions.specs.declared.region.DecidedRegion.{DecidedRegion}
use Rattle.policy_regions.proofs.Turns.{goes_on, stays}
use Rattle.policy_regions.proofs.joining.joined.Goals as goal

pub returns-then-len : goal.returns-then-len
returns-then-len c =
    let xs = c.loop-turn.regions.items in
    let most = c.len-most.result in
    let so_far : joined_within (most - c.loop-turn._turn) xs ≡ joined c.args.regions.items = c.loop-turn.invariant in
    let fewer : c.in_ok-fewer.fewer.items ≡ all_among [] xs = c.in_ok-fewer.ensures ∙ ap (λ (l : List DecidedRegion). all_among [] l) c.deref.ensures.value in
    let le : length xs ≤ length (all_among [] xs) = omega (arith, c.if-len.true, c.len.ensures, c.len-in-loop-turn.ensures, ap length fewer) in
    sym (stays most c.loop-turn._turn xs c.loop-turn-test.true le) ∙ so_far

pub loop-turn-preserved : goal.loop-turn-preserved
loop-turn-preserved c =
    let xs = c.loop-turn.regions.items in
    let most = c.len-most.result in
    let so_far : joined_within (most - c.loop-turn._turn) xs ≡ joined c.args.regions.items = c.loop-turn.invariant in
    let fewer : c.in_ok-fewer.fewer.items ≡ all_among [] xs = c.in_ok-fewer.ensures ∙ ap (λ (l : List DecidedRegion). all_among [] l) c.deref.ensures.value in
    let lt : length (all_among [] xs) < length xs = omega (arith, c.if-len.false, c.len.ensures, c.len-in-loop-turn.ensures, ap length fewer) in
    ap (λ (l : List DecidedRegion). joined_within (most - (c.loop-turn._turn + 1)) l) fewer
    ∙ sym (goes_on most c.loop-turn._turn xs c.loop-turn-test.true lt) ∙ so_far
