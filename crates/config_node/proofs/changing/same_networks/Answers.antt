use Rattle.std.proofs.Common.{sym, ◌∙◌}
use Rattle.config_node.proofs.Alike.{lists, networks}
use Rattle.config_node.proofs.changing.same_networks.Goals as goal

pub returns : goal.returns
returns c = λ h. lists _ networks c.args.before.now.networks c.args.now.now.networks (sym c.eq.ensures ∙ h)
