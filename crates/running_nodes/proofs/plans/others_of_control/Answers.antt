use Rattle.std.proofs.Common.{◌∙◌}
use Rattle.running_nodes.proofs.Vacant.{control_names}
use Rattle.running_nodes.proofs.plans.others_of_control.Goals as goal

pub returns : goal.returns
returns c =
    c.from_vec.ensures ∙ (c.in_ok-names.ensures ∙ control_names c.args.plan.now c.args.config c.requires.name c.requires.none)
