use Rattle.net_machine.proofs.Asked.{goes, none_moved, none_moves, one_can, one_moved, one_moves, stays}
use Rattle.net_machine.proofs.editing.move_put.Goals as goal

pub returns-then-stands-clause-moves : goal.returns-then-stands-clause-moves
returns-then-stands-clause-moves c = λ x is.
    none_moves c.args.topology.now c.args.nodes.now.seats _
    (stays c.args.nodes.now.seats c.args.topology.now c.args.node.now c.valid.result.now x c.topology.result.now
    c.valid.ensures c.topology.ensures.part is c.stands.result c.stands.ensures c.if-stands.true)

pub returns-then-stands-clause-moved : goal.returns-then-stands-clause-moved
returns-then-stands-clause-moved c = λ x is.
    none_moved _
    (stays c.args.nodes.now.seats c.args.topology.now c.args.node.now c.valid.result.now x c.topology.result.now
    c.valid.ensures c.topology.ensures.part is c.stands.result c.stands.ensures c.if-stands.true)

pub move_node-requires-clause-can : goal.move_node-requires-clause-can
move_node-requires-clause-can c = λ x is.
    one_can c.args.topology.now c.args.nodes.now.seats _ _
    (goes c.args.nodes.now.seats c.args.topology.now c.args.node.now c.valid.result.now x c.topology.result.now
    c.valid.ensures c.topology.ensures.part is c.stands.result c.stands.ensures c.if-stands.false) (c.requires.can x is)

pub returns-clause-moves : goal.returns-clause-moves
returns-clause-moves c = λ x is.
    one_moves c.args.topology.now c.args.nodes.now.seats _ _ _
    (goes c.args.nodes.now.seats c.args.topology.now c.args.node.now c.valid.result.now x c.topology.result.now
    c.valid.ensures c.topology.ensures.part is c.stands.result c.stands.ensures c.if-stands.false)
    (c.in_ok-move_node.ensures.moves x is)

pub returns-clause-moved : goal.returns-clause-moved
returns-clause-moved c = λ x is.
    one_moved _ _
    (goes c.args.nodes.now.seats c.args.topology.now c.args.node.now c.valid.result.now x c.topology.result.now
    c.valid.ensures c.topology.ensures.part is c.stands.result c.stands.ensures c.if-stands.false)
