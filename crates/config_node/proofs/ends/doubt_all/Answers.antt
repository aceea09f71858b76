use Rattle.std.proofs.Common.{◌<◌, length, sym, ◌∙◌, ap, set, arith}
use Rattle.std.proofs.lemmas.List.Edits.{map_over_more}
use Rattle.config_node.specs.Ends.{doubted}
use Rattle.config_node.specs.declared.ends.FeedEnd.{FeedEnd}
use Rattle.config_node.proofs.ends.doubt_all.Goals as goal

pub loop-end-preserved : goal.loop-end-preserved
loop-end-preserved c =
    let l = c.loop-end in
    let lt : l.end-index < length c.args.ends.now = omega arith in
    ap (λ (e : FeedEnd). set l.ends l.end-index (doubted e)) (sym c.end-item.is)
    ∙ map_over_more doubted c.args.ends.now l.ends l.end-index c.end-item.result lt l.invariant c.end-item.is
