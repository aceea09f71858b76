use Rattle.std.proofs.Common.{sym, ◌∙◌}
use Rattle.config_node.proofs.Alike.{lists, ports}
use Rattle.config_node.proofs.changing.are_same.Goals as goal

pub returns : goal.returns
returns c = λ h. lists _ ports c.args.before.now c.args.now.now (sym c.eq.ensures ∙ h)
