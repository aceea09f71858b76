use Rattle.std.proofs.Common.{ap, subst, sym, ◌∙◌}
use Rattle.config_check.specs.Checked.{Checked}
use Rattle.config_types.specs.declared.topology.Topology.{Topology}
use Rattle.net_machine.specs.Runs.{tied_moment}
use Rattle.top_call.specs.Constraint.{AreControlNodes}
use Rattle.top_call.proofs.Askings.{controllers_are_there}
use Rattle.top_call.proofs.sending.write_constraint.Goals as goal

pub write_lines-requires-clause-there : goal.write_lines-requires-clause-there
write_lines-requires-clause-there g c =
    let t = (tied_moment c.args.net.now.opening c.args.net.now.events).network.setup.topology in
    subst (AreControlNodes t)
    (sym (c.as_slice-controllers.ensures
    ∙ ap (λ (t : Topology). t.controllers) (c.topology-topology.ensures.part ∙ ap (λ (x : Checked). x.topology) c.config.ensures)))
    (controllers_are_there t)
