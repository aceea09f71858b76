use Rattle.std.proofs.Common.{◌≡◌, IfOk, sym, ◌∙◌, subst}
use Rattle.running_nodes.specs.Seats.{Seat, seat}
use Rattle.running_nodes.specs.Steps.{with_seat}
use Rattle.net_machine.proofs.Coming.{control_within, is_controlling, joined_there, stays_there}
use Rattle.net_machine.proofs.moving.come_at.Goals as goal

pub add_agent-requires-clause-node : goal.add_agent-requires-clause-node
add_agent-requires-clause-node c = control_within _ c.args.index c.args.controller.now.name c.requires.control

pub add_agent-requires-clause-control : goal.add_agent-requires-clause-control
add_agent-requires-clause-control c = is_controlling _ c.args.index c.args.controller.now.name c.requires.control

pub returns-then-lists-clause-comes : goal.returns-then-lists-clause-comes
returns-then-lists-clause-comes c =
    let s = seat c.args.nodes.now.seats c.args.index in
    subst (λ (m : Seat). IfOk c.add_agent.result (λ _. c.add_agent.new.self.seats
    ≡ with_seat c.args.index m c.args.nodes.now.seats))
    (joined_there c.args.node.now s c.args.controller.now c.requires.control (sym c.lists.ensures ∙ c.if-lists.true)) c.add_agent.ensures.joined

pub returns-clause-comes : goal.returns-clause-comes
returns-clause-comes c =
    stays_there c.args.node.now c.args.nodes.now.seats c.args.index c.args.controller.now c.requires.control
    (sym c.lists.ensures ∙ c.if-lists.false)
