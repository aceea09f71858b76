use Rattle.std.proofs.Common.{sym, ◌∙◌}
use Rattle.config_node.proofs.Alike.{lists, services}
use Rattle.config_node.proofs.changing.same_services.Goals as goal

pub returns : goal.returns
returns c = λ h. lists _ services c.args.before.now.services c.args.now.now.services (sym c.eq.ensures ∙ h)
