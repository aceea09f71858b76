use Rattle.std.proofs.Common.{◌∙◌, ap}
use Rattle.config_check.specs.Finding.{node_named}
use Rattle.config_types.specs.declared.topology.Topology.{Topology}
use Rattle.running_nodes.specs.MachineModel.Setup.{listed_by}
use Rattle.net_machine.proofs.Asked.{can_move, moves_so, ok_then}
use Rattle.net_machine.proofs.moving.move_node.Goals as goal

pub move_from-requires-clause-can : goal.move_from-requires-clause-can
move_from-requires-clause-can c =
    can_move c.args.nodes.now.seats c.args.topology.now c.args.name.now _ c.valid.result.now c.deref.result.now
    c.valid.ensures
    (c.deref.ensures.value ∙ c.in_ok-left.ensures ∙ c.listed_by.ensures
    ∙ ap (λ (t : Topology). listed_by (node_named t c.args.name.now)) c.topology.ensures.part)
    c.requires.can

pub returns-clause-moves : goal.returns-clause-moves
returns-clause-moves c =
    ok_then c.move_from.result _ _ (λ _. moves_so c.args.nodes.now.seats c.args.topology.now c.args.name.now _ c.valid.result.now c.deref.result.now
    c.valid.ensures
    (c.deref.ensures.value ∙ c.in_ok-left.ensures ∙ c.listed_by.ensures
    ∙ ap (λ (t : Topology). listed_by (node_named t c.args.name.now)) c.topology.ensures.part)
    _) c.move_from.ensures.moves
