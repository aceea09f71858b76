use Rattle.std.proofs.Common.{subst}
use Rattle.config_types.specs.declared.edit.ObjectKind.{ObjectKind}
use Rattle.running_nodes.specs.MachineModel.Setup.{delete_moves}
use Rattle.net_machine.specs.Moving.{CanMoveIf}
use Rattle.net_machine.proofs.editing.move_deleted.Goals as goal

pub move_node-requires-clause-can : goal.move_node-requires-clause-can
move_node-requires-clause-can c = λ x is.
    subst (λ (k : ObjectKind). CanMoveIf c.args.topology.now (delete_moves k c.args.name.now x.topology) c.args.nodes.now.seats) c.in-Node.is (c.requires.can x is)
