use Rattle.std.proofs.Common.{◌≡◌, ◌<◌, ◌∙◌, ◌++◌, ◌∷◌, [], ap, arith, length, set, sym}
use Rattle.control_node.proofs.Placed.{put_behind, put_there}
use Rattle.control_node.proofs.coming.seat.Goals as goal

pub returns-then-from-len-clause-kept : goal.returns-then-from-len-clause-kept
returns-then-from-len-clause-kept c =
    let long = ap length c.reserve.ensures.items in
    let lt : c.args.session < length c.args.node.now.inboxes.items =
    omega (arith, long, c.if-from-len.true, c.from.ensures, c.len.ensures, c.reserve.new.self.ok.0) in
    (λ i. set (c.reserve.ensures.items i) (c.from-then-from-len.ensures i) (c.clear.ensures i))
    ∙ sym (put_there c.args.node.now.inboxes.items c.args.session [] lt)

pub returns-else-from-len-clause-kept : goal.returns-else-from-len-clause-kept
returns-else-from-len-clause-kept c =
    let long = ap length c.reserve.ensures.items in
    let at : c.args.session ≡ length c.args.node.now.inboxes.items =
    omega (arith, long, c.if-from-len.false, c.from.ensures, c.len.ensures, c.reserve.new.self.ok.0, c.requires.next, c.requires.many) in
    c.push_reserved.ensures.items
    ∙ (λ i. c.reserve.ensures.items i ++ c.new.ensures i ∷ [])
    ∙ sym (put_behind c.args.node.now.inboxes.items c.args.session [] at)
