use Rattle.node_core.proofs.Kept.{swept_few, swept_live}
use Rattle.node_core.proofs.node.NodeCore.sweep.Goals as goal

pub returns-clause-few : goal.returns-clause-few
returns-clause-few g c = swept_few (g.E.Ends.posts c.args.self.now.ends) _ _ c.sweep.ensures

pub returns-clause-live : goal.returns-clause-live
returns-clause-live g c = swept_live (g.E.Ends.posts c.args.self.now.ends) _ _ c.sweep.ensures
