use Rattle.std.proofs.Common.{rules, ap}
use Rattle.config_check.specs.Rules.{missing_in_node}
use Rattle.config_check.proofs.references.missing_in_nodes.Goals as goal

pub returns : goal.returns
returns c = c.first_of.ensures (missing_in_node c.args.controllers.now) (λ x r h. search (rules, h.says.met, h.shows, ap))
