use Rattle.std.proofs.Common.{sym, ◌∙◌}
use Rattle.config_node.proofs.Alike.{lists, policies}
use Rattle.config_node.proofs.changing.same_policies.Goals as goal

pub returns : goal.returns
returns c = λ h. lists _ policies c.args.before.now.policies c.args.now.now.policies (sym c.eq.ensures ∙ h)
