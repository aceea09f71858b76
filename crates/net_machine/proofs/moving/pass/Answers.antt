use Rattle.std.proofs.Common.{ℕ, IfOk, refl, sym, ◌∙◌, subst}
use Rattle.std.specs.declared.option.Option.{Option}
use Rattle.running_nodes.specs.Moving.{PassesAt}
use Rattle.net_machine.proofs.Moved.{pass_control}
use Rattle.net_machine.proofs.Seating.{named_within}
use Rattle.net_machine.proofs.moving.pass.Goals as goal

pub pass_at-requires-clause-node : goal.pass_at-requires-clause-node
pass_at-requires-clause-node c =
    named_within c.args.nodes.now.seats c.args.control.now c.in-Some.node (sym c.seat_named.ensures ∙ c.in-Some.is)

pub pass_at-requires-clause-control : goal.pass_at-requires-clause-control
pass_at-requires-clause-control c =
    pass_control c.args.nodes.now.seats c.args.control.now c.in-Some.node c.requires.control (sym c.seat_named.ensures ∙ c.in-Some.is)

pub returns-in-None-clause-passes : goal.returns-in-None-clause-passes
returns-in-None-clause-passes c =
    let seats = c.args.nodes.now.seats in
    subst (λ (o : Option ℕ). PassesAt o seats seats) (sym (sym c.seat_named.ensures ∙ c.in-None.is)) refl

pub returns-in-Some-clause-passes : goal.returns-in-Some-clause-passes
returns-in-Some-clause-passes c =
    subst (λ (o : Option ℕ). IfOk c.pass_at.result (λ _. PassesAt o c.args.nodes.now.seats c.pass_at.new.nodes.seats))
    (sym (sym c.seat_named.ensures ∙ c.in-Some.is)) c.pass_at.ensures.passes
