use Rattle.std.proofs.Common.{sym, ◌∙◌}
use Rattle.config_node.proofs.Alike.{lists, chains}
use Rattle.config_node.proofs.changing.same_chains.Goals as goal

pub returns : goal.returns
returns c = λ h. lists _ chains c.args.before.now.chains c.args.now.now.chains (sym c.eq.ensures ∙ h)
