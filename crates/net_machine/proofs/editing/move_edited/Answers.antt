use Rattle.std.proofs.Common.{subst}
use Rattle.config_types.specs.declared.edit.Edit.{Edit}
use Rattle.running_nodes.specs.MachineModel.Setup.{moves}
use Rattle.net_machine.specs.Moving.{CanMoveIf}
use Rattle.net_machine.proofs.editing.move_edited.Goals as goal

pub move_object-requires-clause-can : goal.move_object-requires-clause-can
move_object-requires-clause-can c = λ x is.
    subst (λ (e : Edit). CanMoveIf c.args.topology.now (moves e x.topology) c.args.nodes.now.seats) c.in-Put.is (c.requires.can x is)

pub move_deleted-requires-clause-can : goal.move_deleted-requires-clause-can
move_deleted-requires-clause-can c = λ x is.
    subst (λ (e : Edit). CanMoveIf c.args.topology.now (moves e x.topology) c.args.nodes.now.seats) c.in-Delete.is (c.requires.can x is)
