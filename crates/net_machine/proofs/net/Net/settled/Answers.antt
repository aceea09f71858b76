use Rattle.std.proofs.Common.{sym, ◌∙◌, ap, subst}
use Rattle.std.specs.List.{All}
use Rattle.running_nodes.specs.MachineModel.Setup.{checked}
use Rattle.running_nodes.specs.MachineModel.Steps as machine
use Rattle.machine_moment_laws.specs.Runs.{tied_moment}
use Rattle.net_machine.specs.NetState.{NetState}
use Rattle.net_machine.specs.Seating.{AreSeated}
use Rattle.net_machine.specs.Settling.{is_settled}
use Rattle.net_machine.specs.Shown.{ShowsCompiled}
use Rattle.net_machine.proofs.Promised.{settled_shows}
use Rattle.net_machine.proofs.Ran.{run_after, run_seated, run_settled}
use Rattle.net_machine.proofs.net.Net.settled.Goals as goal

pub is_settled-requires : goal.is_settled-requires
is_settled-requires c =
    let works = ap (λ (n : NetState). n.failed) c.self.view_is ∙ c.requires in
    let n = c.self.inside in
    subst (All (AreSeated n.nodes.seats)) (sym c.as_slice.ensures.value)
    (run_seated n.opening n.events n.ties n.nodes.seats n.order.items (c.self.invariant works).0)

pub returns-clause-settled : goal.returns-clause-settled
returns-clause-settled c =
    let works = ap (λ (n : NetState). n.failed) c.self.view_is ∙ c.requires in
    let n = c.self.inside in
    c.is_settled.ensures ∙ ap (is_settled n.nodes.seats) c.as_slice.ensures.value
    ∙ run_settled n.opening n.events n.ties n.nodes.seats n.order.items (c.self.invariant works).0
    ∙ ap (λ (n : NetState). machine.is_settled (tied_moment n.opening n.events).network) c.self.view_is

pub returns-clause-compiled : goal.returns-clause-compiled
returns-clause-compiled c = λ h.
    let works = ap (λ (n : NetState). n.failed) c.self.view_is ∙ c.requires in
    let n = c.self.inside in
    let running = (c.self.invariant works).0 in
    subst (λ (n : NetState). ShowsCompiled (checked (tied_moment n.opening n.events).network.setup) n.seats) c.self.view_is
    (settled_shows (tied_moment n.opening n.events).network
    (run_after n.opening n.events n.ties n.nodes.seats n.order.items running) n.nodes.seats running.stands
    (sym (run_settled n.opening n.events n.ties n.nodes.seats n.order.items running)
    ∙ sym (ap (is_settled n.nodes.seats) c.as_slice.ensures.value) ∙ sym c.is_settled.ensures ∙ h))
