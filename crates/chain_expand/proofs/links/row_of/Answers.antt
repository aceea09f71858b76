use Rattle.std.proofs.Common.{arith, sym, ap, ◌∙◌, length}
use Rattle.chain_expand.proofs.Rows.{has_none, has_more, within_marks, length-with_mark}
use Rattle.chain_expand.proofs.links.row_of.Goals as goal

pub loop-hop-init : goal.loop-hop-init
loop-hop-init c = has_none c.args.config.now

pub loop-hop-preserved : goal.loop-hop-preserved
loop-hop-preserved c =
    let row = c.loop-hop.row in
    let place = c.place_named.result in
    rw c.mark.ensures
    (has_more c.args.config.now c.args.hops.now c.loop-hop.hop-index c.hop-item.result row place c.loop-hop.invariant (sym (length-with_mark row place) ∙ ap length (sym c.mark.ensures) ∙ c.type_inv.row) (omega arith) c.hop-item.is c.place_named.ensures.place (within_marks place _ c.requires c.place_named.ensures.within))
