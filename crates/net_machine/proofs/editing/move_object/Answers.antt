use Rattle.std.proofs.Common.{subst}
use Rattle.config_types.specs.declared.edit.Object.{Object}
use Rattle.running_nodes.specs.MachineModel.Setup.{put_moves}
use Rattle.net_machine.specs.Moving.{CanMoveIf}
use Rattle.net_machine.proofs.editing.move_object.Goals as goal

pub move_put-requires-clause-can : goal.move_put-requires-clause-can
move_put-requires-clause-can c = λ x is.
    subst (λ (o : Object). CanMoveIf c.args.topology.now (put_moves o x.topology) c.args.nodes.now.seats) c.in-Node.is (c.requires.can x is)
