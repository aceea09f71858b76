use Rattle.std.proofs.Common.{◌∙◌, ap, subst}
use Rattle.std.specs.Prelude.{◌≡◌}
use Rattle.schedule_script.specs.Kept.{ties_in}
use Rattle.running_nodes.specs.MachineModel.Events.{event_of}
use Rattle.machine_moment_laws.specs.TiedCompiled.{EndsAtOnce, IsAsCompiled}
use Rattle.machine_moment_laws.specs.Isolated.{DeliversSoFar, DeliversTied}
use Rattle.machine_moment_laws.specs.RevocationSchedules.{RevokedSoFar}
use Rattle.machine_moment_laws.specs.PermissionSchedules.{PermittedSoFar}
use Rattle.machine_moment_laws.specs.KeptSchedules.{KeptSoFar}
use Rattle.machine_moment_laws.specs.AgainSchedules.{AgainSoFar}
use Rattle.machine_moment_laws.specs.Runs.{answer_tied, tied_moment}
use Rattle.machine_moment_laws.proofs.TiedMoments.{tied_rounds}
use Rattle.net_machine.specs.NetState.{NetState}
use Rattle.net_machine.specs.Tying.{OfTie}
use Rattle.net_machine.proofs.Ran.{run_can, run_configured, run_seated, step_answers, step_compiled, step_ends, step_isolated, step_revoked}
use Rattle.net_machine.proofs.Ran.{step_again, step_joined, step_permitted, step_runs, step_unchanged, step_uninterrupted}
use Rattle.net_machine.proofs.net.Net.step.Goals as goal

pub happen_tied-requires-clause-configured : goal.happen_tied-requires-clause-configured
happen_tied-requires-clause-configured c =
    let n = c.self.inside in
    run_configured n.opening n.events n.ties n.nodes.seats n.order.items (c.self.invariant c.if-self.false).0

pub happen_tied-requires-clause-seated : goal.happen_tied-requires-clause-seated
happen_tied-requires-clause-seated c =
    let n = c.self.inside in
    run_seated n.opening n.events n.ties n.nodes.seats n.order.items (c.self.invariant c.if-self.false).0

pub happen_tied-requires-clause-can : goal.happen_tied-requires-clause-can
happen_tied-requires-clause-can c =
    let n = c.self.inside in
    run_can n.opening n.events n.ties n.nodes.seats n.order.items (c.self.invariant c.if-self.false).0 c.args.event
    c.requires.form

pub invariant_of-self-2 : goal.invariant_of-self-2
invariant_of-self-2 c = λ _.
    let n = c.self.inside in (
      step_runs n.opening n.events n.ties n.nodes.seats n.order.items (c.self.invariant c.if-self.false).0
          c.args.event c.in_ok-answer.answer c.happen_tied.new.ties c.happen_tied.new.nodes.seats c.happen_tied.new.order.items c.requires.form
          c.in_ok-answer.ensures.happens c.in_ok-answer.ensures.orders
          c.push.new.self c.in_ok-push.ensures.ok,
      c.in_ok-answer.ensures.works,
    )

pub returns-clause-answer : goal.returns-clause-answer
returns-clause-answer c =
    let n = c.self.inside in
    step_answers n.opening n.events n.ties n.nodes.seats n.order.items (c.self.invariant c.if-self.false).0
    c.args.event c.in_ok-answer.answer c.happen_tied.new.ties c.happen_tied.new.nodes.seats c.happen_tied.new.order.items c.requires.form
    c.in_ok-answer.ensures.happens c.in_ok-answer.ensures.orders
    ∙ ap (λ (s : NetState). answer_tied (tied_moment s.opening s.events) (event_of c.args.event)) c.self.view_is

pub returns-clause-unchanged : goal.returns-clause-unchanged
returns-clause-unchanged c =
    let n = c.self.inside in
    subst (λ (s : NetState). OfTie (λ _. (c.happen_tied.new.ties ≡ s.ties) × (c.happen_tied.new.nodes.seats ≡ s.seats))
    c.in_ok-answer.answer) c.self.view_is
    (step_unchanged n.opening n.events n.ties n.nodes.seats n.order.items (c.self.invariant c.if-self.false).0
    c.args.event c.in_ok-answer.answer c.happen_tied.new.ties c.happen_tied.new.nodes.seats c.happen_tied.new.order.items c.requires.form
    c.in_ok-answer.ensures.happens c.in_ok-answer.ensures.orders)

pub returns-clause-state : goal.returns-clause-state
returns-clause-state c =
    let n = c.self.inside in
    (step_runs n.opening n.events n.ties n.nodes.seats n.order.items (c.self.invariant c.if-self.false).0
    c.args.event c.in_ok-answer.answer c.happen_tied.new.ties c.happen_tied.new.nodes.seats c.happen_tied.new.order.items c.requires.form
    c.in_ok-answer.ensures.happens c.in_ok-answer.ensures.orders
    c.push.new.self c.in_ok-push.ensures.ok).stands

pub returns-clause-ties : goal.returns-clause-ties
returns-clause-ties c =
    let n = c.self.inside in
    (step_runs n.opening n.events n.ties n.nodes.seats n.order.items (c.self.invariant c.if-self.false).0
    c.args.event c.in_ok-answer.answer c.happen_tied.new.ties c.happen_tied.new.nodes.seats c.happen_tied.new.order.items c.requires.form
    c.in_ok-answer.ensures.happens c.in_ok-answer.ensures.orders
    c.push.new.self c.in_ok-push.ensures.ok).tied

pub returns-clause-rounds : goal.returns-clause-rounds
returns-clause-rounds c =
    let n = c.self.inside in
    let r = step_runs n.opening n.events n.ties n.nodes.seats n.order.items (c.self.invariant c.if-self.false).0
    c.args.event c.in_ok-answer.answer c.happen_tied.new.ties c.happen_tied.new.nodes.seats c.happen_tied.new.order.items c.requires.form
    c.in_ok-answer.ensures.happens c.in_ok-answer.ensures.orders
    c.push.new.self c.in_ok-push.ensures.ok in
    tied_rounds n.opening r.written c.push.new.self r.forms

pub returns-clause-settles : goal.returns-clause-settles
returns-clause-settles c =
    let n = c.self.inside in
    subst (λ (s : NetState). EndsAtOnce (tied_moment s.opening s.events) c.args.event c.in_ok-answer.answer
    (tied_moment n.opening c.push.new.self)) c.self.view_is
    (step_ends n.opening n.events n.ties n.nodes.seats n.order.items (c.self.invariant c.if-self.false).0
    c.args.event c.in_ok-answer.answer c.happen_tied.new.ties c.happen_tied.new.nodes.seats c.happen_tied.new.order.items c.requires.form
    c.in_ok-answer.ensures.happens c.in_ok-answer.ensures.orders
    c.push.new.self c.in_ok-push.ensures.ok)

pub returns-clause-compiled : goal.returns-clause-compiled
returns-clause-compiled c =
    let n = c.self.inside in
    subst (λ (s : NetState). IsAsCompiled (tied_moment s.opening s.events) c.args.event c.in_ok-answer.answer)
    c.self.view_is
    (step_compiled n.opening n.events n.ties n.nodes.seats n.order.items (c.self.invariant c.if-self.false).0
    c.args.event c.in_ok-answer.answer c.happen_tied.new.ties c.happen_tied.new.nodes.seats c.happen_tied.new.order.items c.requires.form
    c.in_ok-answer.ensures.happens c.in_ok-answer.ensures.orders)

pub returns-clause-every_moment : goal.returns-clause-every_moment
returns-clause-every_moment c =
    let n = c.self.inside in
    subst (λ (s : NetState). DeliversSoFar s.opening s.events c.args.event c.in_ok-answer.answer) c.self.view_is
    (step_isolated n.opening n.events n.ties n.nodes.seats n.order.items (c.self.invariant c.if-self.false).0
    c.args.event c.in_ok-answer.answer c.happen_tied.new.ties c.happen_tied.new.nodes.seats c.happen_tied.new.order.items c.requires.form
    c.in_ok-answer.ensures.happens c.in_ok-answer.ensures.orders)

pub returns-clause-revoked : goal.returns-clause-revoked
returns-clause-revoked c =
    let n = c.self.inside in
    subst (λ (s : NetState). RevokedSoFar s.opening s.events c.args.event c.in_ok-answer.answer) c.self.view_is
    (step_revoked n.opening n.events n.ties n.nodes.seats n.order.items (c.self.invariant c.if-self.false).0
    c.args.event c.in_ok-answer.answer c.happen_tied.new.ties c.happen_tied.new.nodes.seats c.happen_tied.new.order.items c.requires.form
    c.in_ok-answer.ensures.happens c.in_ok-answer.ensures.orders)

pub returns-clause-permitted : goal.returns-clause-permitted
returns-clause-permitted c =
    let n = c.self.inside in
    subst (λ (s : NetState). PermittedSoFar s.opening s.events c.args.event c.in_ok-answer.answer) c.self.view_is
    (step_permitted n.opening n.events n.ties n.nodes.seats n.order.items (c.self.invariant c.if-self.false).0
    c.args.event c.in_ok-answer.answer c.happen_tied.new.ties c.happen_tied.new.nodes.seats c.happen_tied.new.order.items c.requires.form
    c.in_ok-answer.ensures.happens c.in_ok-answer.ensures.orders)

pub returns-clause-uninterrupted : goal.returns-clause-uninterrupted
returns-clause-uninterrupted c =
    let n = c.self.inside in
    subst (λ (s : NetState). KeptSoFar s.opening s.events c.args.event c.in_ok-answer.answer) c.self.view_is
    (step_uninterrupted n.opening n.events n.ties n.nodes.seats n.order.items (c.self.invariant c.if-self.false).0
    c.args.event c.in_ok-answer.answer c.happen_tied.new.ties c.happen_tied.new.nodes.seats c.happen_tied.new.order.items c.requires.form
    c.in_ok-answer.ensures.happens c.in_ok-answer.ensures.orders)

pub returns-clause-again : goal.returns-clause-again
returns-clause-again c =
    let n = c.self.inside in
    subst (λ (s : NetState). AgainSoFar s.opening s.events c.args.event c.in_ok-answer.answer) c.self.view_is
    (step_again n.opening n.events n.ties n.nodes.seats n.order.items (c.self.invariant c.if-self.false).0
    c.args.event c.in_ok-answer.answer c.happen_tied.new.ties c.happen_tied.new.nodes.seats c.happen_tied.new.order.items c.requires.form
    c.in_ok-answer.ensures.happens c.in_ok-answer.ensures.orders)

pub returns-clause-joined : goal.returns-clause-joined
returns-clause-joined c =
    let n = c.self.inside in
    subst (λ (s : NetState). DeliversTied (ties_in s.ties) c.args.event c.in_ok-answer.answer) c.self.view_is
    (step_joined n.opening n.events n.ties n.nodes.seats n.order.items (c.self.invariant c.if-self.false).0
    c.args.event c.in_ok-answer.answer c.happen_tied.new.ties c.happen_tied.new.nodes.seats c.happen_tied.new.order.items c.requires.form
    c.in_ok-answer.ensures.happens c.in_ok-answer.ensures.orders)
