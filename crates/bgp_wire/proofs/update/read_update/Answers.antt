use Rattle.std.proofs.Common.{arith, rules, take, drop, ap, ◌∙◌}
use Rattle.bgp_wire.proofs.Octets.{range_from}
use Rattle.bgp_wire.proofs.UpdateBodies.{update_is}
use Rattle.bgp_wire.proofs.update.read_update.Goals as goal

pub returns-clause-update : goal.returns-clause-update
returns-clause-update c =
    let n = c.from-withdrawn_len.result in
    let m = c.from-attributes_len.result in
    let body = c.args.body.now in
    let rest = c.split_at.result.1.now in
    update_is body _ rest _ _ n m (λ k. omega (arith, c.type_inv.body k))
    (search rules) (omega arith)
    (c.split_at.ensures.front ∙ ap (take n) (range_from 2 body)) (c.split_at.ensures.back ∙ ap (drop n) (range_from 2 body))
    (search rules) (omega arith)
    (c.split_at-2.ensures.front ∙ ap (take m) (range_from 2 rest)) (c.split_at-2.ensures.back ∙ ap (drop m) (range_from 2 rest))
