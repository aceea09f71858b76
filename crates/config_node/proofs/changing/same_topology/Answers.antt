use Rattle.std.proofs.Common.{sym, ◌∙◌}
use Rattle.config_node.proofs.Alike.{topologies}
use Rattle.config_node.proofs.changing.same_topology.Goals as goal

pub returns : goal.returns
returns c = λ h. topologies c.args.before.now c.args.now.now (sym c.eq.ensures ∙ h)
