use Rattle.std.proofs.Common.{◌≡◌, ◌+◌, ◌-◌, subst, sym, arith}
use Rattle.inspect_walks.proofs.RowLemmas.{Shorter, all_shorter, none_shorter, passed, taken}
use Rattle.inspect_walks.proofs.rows.row_taken.Goals as goal

pub loop-left-init : goal.loop-left-init
loop-left-init c = record { most = omega arith; shorter = all_shorter c.args.instance c.args.address.0 c.args.rows.now c.requires.prefixes }

pub returns-in-Some : goal.returns-in-Some
returns-in-Some c =
    let left = c.loop-left.left in
    let more : left ≡ left - 1 + 1 = omega (arith, c.loop-left-test.true) in
    let prefix = c.prefix_around-prefix.ensures in
    taken c.args.instance c.args.address.0 c.args.rows.now c.requires.prefixes left (left - 1) more c.loop-left.invariant.shorter c.prefix_around-prefix.result
    prefix.len prefix.containing prefix.prefix c.requires.ascending c.in-Some.entry c.in-Some.ensures

pub loop-left-preserved : goal.loop-left-preserved
loop-left-preserved c =
    let left = c.loop-left.left in
    let more : left ≡ left - 1 + 1 = omega (arith, c.loop-left-test.true) in
    let prefix = c.prefix_around-prefix.ensures in
    record {
      most = omega (arith, c.loop-left.invariant.most);
      shorter =
          passed c.args.instance c.args.address.0 c.args.rows.now c.requires.prefixes left (left - 1) more c.loop-left.invariant.shorter c.prefix_around-prefix.result
          prefix.len prefix.containing prefix.prefix c.in_default.ensures;
    }

pub returns : goal.returns
returns c =
    let none : c.loop-left.left ≡ 0 = omega (arith, c.loop-left-test.false) in
    sym (none_shorter c.args.instance c.args.address.0 c.args.rows.now
    (subst (Shorter c.args.instance c.args.address.0 c.args.rows.now) none c.loop-left.invariant.shorter))
