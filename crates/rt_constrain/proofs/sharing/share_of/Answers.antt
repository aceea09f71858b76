use Rattle.std.proofs.Common.{sym, ap, ◌∙◌, length}
use Rattle.rt_constrain.specs.Covering.{covers}
use Rattle.rt_constrain.proofs.Counted.{count_is, sent_is}
use Rattle.rt_constrain.proofs.sharing.share_of.Goals as goal

pub returns : goal.returns
returns c =
    let es = c.args.routes.now.entries in
    λ i. record {
      sent = (c.covered_among-sent.ensures ∙ sent_is (covers c.args.asked.now) es c.len-all.ensures.ordered) i;
      all = (c.len-all.ensures.len ∙ count_is es c.len-all.ensures.ordered) i;
    }
