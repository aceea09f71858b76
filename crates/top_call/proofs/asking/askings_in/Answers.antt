use Rattle.std.proofs.Common.{ap, subst, sym, ◌∙◌}
use Rattle.config_check.specs.Checked.{Checked}
use Rattle.config_types.specs.declared.topology.Topology.{Topology}
use Rattle.net_machine.specs.Runs.{tied_moment}
use Rattle.top_call.specs.Constraint.{AreControlNodes}
use Rattle.top_call.proofs.Askings.{controllers_are_there}
use Rattle.top_call.proofs.asking.askings_in.Goals as goal

pub askings_of-requires-clause-there : goal.askings_of-requires-clause-there
askings_of-requires-clause-there c =
    let t = (tied_moment c.args.net.now.opening c.args.net.now.events).network.setup.topology in
    subst (AreControlNodes t)
    (sym (c.as_slice.ensures
    ∙ ap (λ (t : Topology). t.controllers) (c.topology-topology.ensures.part ∙ ap (λ (x : Checked). x.topology) c.config.ensures)))
    (controllers_are_there t)
