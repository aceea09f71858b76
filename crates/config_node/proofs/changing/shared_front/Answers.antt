use Rattle.std.proofs.Common.{◌≡◌, ◌+◌, ◌<◌, suc, length, take, get_or, ap, subst, sym, ◌∙◌, arith}
use Rattle.config_node.proofs.Changed.{one_more, place_within}
use Rattle.config_node.proofs.changing.shared_front.Goals as goal

pub loop-port-preserved : goal.loop-port-preserved
loop-port-preserved c =
    let l = c.loop-port in let inv = l.invariant in
    let before = c.args.before.now in let now = c.args.now.now in
    let port = c.port-item.result in
    let at = c.stands_at.ensures c.if-not-stands_at.false in
    let within : l.shared < length now = place_within now l.shared port at in
    let lt : l.shared < length before = omega (arith, inv.count) in
    let is : port ≡ get_or before l.shared port = c.port-item.is ∙ ap (λ j. get_or before j port) (sym inv.count) in
    let more : suc l.shared ≡ l.shared + 1 = omega arith in
    record {
      count = ap (λ n. n + 1) inv.count;
      within = omega (arith, within);
      same = subst (λ j. take j before ≡ take j now) more (one_more before now l.shared port lt is at inv.same);
    }
