use Rattle.std.proofs.Common.{◌∙◌, sym, ap, length}
use Rattle.node_core.proofs.Kept.{nothing_left, nothings_long}
use Rattle.node_core.proofs.node.NodeCore.restart.Goals as goal

pub sweep-requires : goal.sweep-requires
sweep-requires g c =
    c.requires ∙ sym (nothings_long (length (g.E.Ends.posts c.args.self.now.ends))) ∙ ap length (sym c.close_all.ensures.posts)

pub returns-clause-none : goal.returns-clause-none
returns-clause-none g c =
    nothing_left (length (g.E.Ends.posts c.args.self.now.ends)) (g.E.Ends.posts c.close_all.new.ends) _ _
    c.close_all.ensures.posts c.requires c.sweep.ensures
