use Rattle.std.proofs.Common.{◌≡◌, List, length, sym, ◌∙◌, ap, arith, subst}
use Rattle.running_nodes.specs.Seats.{Seat}
use Rattle.running_nodes.specs.Steps.{cleared}
use Rattle.net_machine.specs.Seating.{AreLong}
use Rattle.net_machine.proofs.Kept.{with_count}
use Rattle.net_machine.proofs.Moved.{pass_keeps}
use Rattle.net_machine.proofs.moving.pass_at.Goals as goal

pub clear_node-requires-clause-node : goal.clear_node-requires-clause-node
clear_node-requires-clause-node c =
    let l = c.in_ok-tell.ensures.passes in
    let count = ap (λ ss. length ss) l.2 ∙ with_count c.args.nodes.now.seats c.args.node l.0 in
    let within = c.requires.node in
    omega (arith, count, within)

pub clear_node-requires-clause-long : goal.clear_node-requires-clause-long
clear_node-requires-clause-long c =
    let l = c.in_ok-tell.ensures.passes in
    subst AreLong (sym l.2) (pass_keeps c.args.nodes.now.seats c.args.node l.0 c.requires.long c.requires.node l.1).long

pub returns-clause-passes : goal.returns-clause-passes
returns-clause-passes c =
    let l = c.in_ok-tell.ensures.passes in
    (l.0, l.1, c.clear_node.ensures.cleared ∙ ap (λ (ss : List Seat). cleared ss c.args.node) l.2)
