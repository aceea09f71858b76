use Rattle.std.specs.Prelude.{◌≡◌, option_copied, IfSome}
use Rattle.std.proofs.Common.{ap, subst, sym, ◌∙◌}
use Rattle.node_laws.specs.Quiet.{SameButQuiet}
use Rattle.machine_moment_laws.specs.Runs.{tied_moment}
use Rattle.net_machine.specs.Looking.{held_at, is_control_node}
use Rattle.net_machine.specs.NetState.{NetState}
use Rattle.running_nodes.specs.Cores.{present}
use Rattle.net_machine.proofs.ControlNodes.{copied_some, core_exact, core_is, finds, finds_none, held_of}
use Rattle.net_machine.proofs.Ran.{run_moment}
use Rattle.net_machine.proofs.Seating.{named_within}
use Rattle.net_machine.proofs.net.Net.control.Goals as goal

pub control-requires : goal.control-requires
control-requires c = named_within _ c.args.name.now c.in-Some.node (sym c.seat_named.ensures ∙ c.in-Some.is)

pub returns-in-Some-clause-found : goal.returns-in-Some-clause-found
returns-in-Some-clause-found c =
    let n = c.self.inside in
    let running = (c.self.invariant (ap (λ (n : NetState). n.failed) c.self.view_is ∙ c.requires)).0 in
    let name = c.args.name.now in
    let w = (tied_moment n.opening n.events).network in
    let found = finds w (run_moment n.opening n.events n.ties n.nodes.seats n.order.items running) n.nodes.seats running.stands name c.in-Some.node (sym c.seat_named.ensures ∙ c.in-Some.is) in
    copied_some c.control.result
    ∙ (core_is w name (option_copied c.control.result) _ c.control.ensures found).0
    ∙ ap (λ (n : NetState). is_control_node (tied_moment n.opening n.events).network.setup.topology name) c.self.view_is

pub returns-in-Some-clause-holds : goal.returns-in-Some-clause-holds
returns-in-Some-clause-holds c =
    let n = c.self.inside in
    let running = (c.self.invariant (ap (λ (n : NetState). n.failed) c.self.view_is ∙ c.requires)).0 in
    let name = c.args.name.now in
    let w = (tied_moment n.opening n.events).network in
    let found = finds w (run_moment n.opening n.events n.ties n.nodes.seats n.order.items running) n.nodes.seats running.stands name c.in-Some.node (sym c.seat_named.ensures ∙ c.in-Some.is) in
    subst (λ (n : NetState). IfSome (option_copied c.control.result) (λ node. SameButQuiet (held_of node) (held_at (tied_moment n.opening n.events).network name))) c.self.view_is
    (core_is w name (option_copied c.control.result) _ c.control.ensures found).1

pub returns-in-Some-clause-exact : goal.returns-in-Some-clause-exact
returns-in-Some-clause-exact c =
    let n = c.self.inside in
    let running = (c.self.invariant (ap (λ (n : NetState). n.failed) c.self.view_is ∙ c.requires)).0 in
    let name = c.args.name.now in
    let w = (tied_moment n.opening n.events).network in
    let found = finds w (run_moment n.opening n.events n.ties n.nodes.seats n.order.items running) n.nodes.seats running.stands name c.in-Some.node (sym c.seat_named.ensures ∙ c.in-Some.is) in
    subst (λ (n : NetState). IfSome (option_copied c.control.result) (λ node. present node ≡ held_at (tied_moment n.opening n.events).network name)) c.self.view_is
    (core_exact w name (option_copied c.control.result) _ c.control.ensures found)

pub returns-in-None-clause-found : goal.returns-in-None-clause-found
returns-in-None-clause-found c =
    let n = c.self.inside in
    let running = (c.self.invariant (ap (λ (n : NetState). n.failed) c.self.view_is ∙ c.requires)).0 in
    let name = c.args.name.now in
    (finds_none (tied_moment n.opening n.events).network (run_moment n.opening n.events n.ties n.nodes.seats n.order.items running) n.nodes.seats running.stands name (sym c.seat_named.ensures ∙ c.in-None.is)).is
    ∙ ap (λ (n : NetState). is_control_node (tied_moment n.opening n.events).network.setup.topology name) c.self.view_is
