use Rattle.std.proofs.Common.{arith, ap, subst, sym, ◌≡◌, ◌∙◌, IfOk, length, set}
use Rattle.running_nodes.specs.ControlNode.ControlPlan.{ControlPlan}
use Rattle.running_nodes.specs.Controls.{controls_of}
use Rattle.running_nodes.specs.Seats.{Configuring, Controlling, Forwarding, name_of, others_of}
use Rattle.running_nodes.specs.Changes.{PassesOver}
use Rattle.running_nodes.specs.Cores.{controlled, inners}
use Rattle.running_nodes.specs.Halves.{Inner, inner}
use Rattle.running_nodes.proofs.Numbers.{agent_is, agent_within, changes_one, config_is, control_is, control_set, set_at, standing_at}
use Rattle.running_nodes.proofs.cores.Cores.tell.Goals as goal

pub tell_control-requires-clause-long : goal.tell_control-requires-clause-long
tell_control-requires-clause-long c =
    subst (λ (n : Inner). length n.posts ≡ length (others_of n.who))
    (control_is c.args.self.now c.self.inside.config c.self.inside.controls.items c.self.inside.agents.items c.args.node c.len.result c.in-Control.place c.self.view_is (omega (arith, c.len.ensures, c.self.inside.controls.ok.0)) c.index_mut.result.now c.in-Control.ensures.number c.in-Control.ensures.within c.index_mut.ensures.value)
    c.requires.long

pub tell_control-requires-clause-linked : goal.tell_control-requires-clause-linked
tell_control-requires-clause-linked c =
    subst (λ (n : Inner). length c.args.links.now ≡ length (others_of n.who))
    (control_is c.args.self.now c.self.inside.config c.self.inside.controls.items c.self.inside.agents.items c.args.node c.len.result c.in-Control.place c.self.view_is (omega (arith, c.len.ensures, c.self.inside.controls.ok.0)) c.index_mut.result.now c.in-Control.ensures.number c.in-Control.ensures.within c.index_mut.ensures.value)
    c.requires.linked

pub tell_control-requires-clause-kept : goal.tell_control-requires-clause-kept
tell_control-requires-clause-kept c =
    subst (λ (n : Inner). length n.kept ≡ length (others_of n.who))
    (control_is c.args.self.now c.self.inside.config c.self.inside.controls.items c.self.inside.agents.items c.args.node c.len.result c.in-Control.place c.self.view_is (omega (arith, c.len.ensures, c.self.inside.controls.ok.0)) c.index_mut.result.now c.in-Control.ensures.number c.in-Control.ensures.within c.index_mut.ensures.value)
    c.requires.kept

pub returns-clause-one : goal.returns-clause-one
returns-clause-one c =
    changes_one c.args.self.now (inners c.self.inside.config (set c.self.inside.controls.items c.in-Control.place c.tell_control.new.node) c.self.inside.agents.items) c.args.node (controlled c.index_mut.result.now) (controlled c.tell_control.new.node)
    (control_is c.args.self.now c.self.inside.config c.self.inside.controls.items c.self.inside.agents.items c.args.node c.len.result c.in-Control.place c.self.view_is (omega (arith, c.len.ensures, c.self.inside.controls.ok.0)) c.index_mut.result.now c.in-Control.ensures.number c.in-Control.ensures.within c.index_mut.ensures.value)
    (control_set c.args.self.now c.self.inside.config c.self.inside.controls.items c.self.inside.agents.items c.args.node c.len.result c.in-Control.place c.self.view_is (omega (arith, c.len.ensures, c.self.inside.controls.ok.0)) c.tell_control.new.node c.in-Control.ensures.number c.in-Control.ensures.within)
    c.requires.node (ap (λ (plan : ControlPlan). name_of (Controlling (controls_of plan))) c.tell_control.ensures.plan) (ap (λ (plan : ControlPlan). others_of (Controlling (controls_of plan))) c.tell_control.ensures.plan) c.tell_control.ensures.long c.tell_control.ensures.kept

pub returns-clause-passes : goal.returns-clause-passes
returns-clause-passes c =
    let now : inner (inners c.self.inside.config (set c.self.inside.controls.items c.in-Control.place c.tell_control.new.node) c.self.inside.agents.items) c.args.node ≡ controlled c.tell_control.new.node =
    set_at c.args.self.now (inners c.self.inside.config (set c.self.inside.controls.items c.in-Control.place c.tell_control.new.node) c.self.inside.agents.items) c.args.node (controlled c.tell_control.new.node) (control_set c.args.self.now c.self.inside.config c.self.inside.controls.items c.self.inside.agents.items c.args.node c.len.result c.in-Control.place c.self.view_is (omega (arith, c.len.ensures, c.self.inside.controls.ok.0)) c.tell_control.new.node c.in-Control.ensures.number c.in-Control.ensures.within) c.requires.node in
    subst (λ (n' : Inner). IfOk c.tell_control.result (λ _. PassesOver c.args.links.now c.tell_control.new.links (inner c.args.self.now c.args.node) n')) (sym now)
    (subst (λ (n : Inner). IfOk c.tell_control.result (λ _. PassesOver c.args.links.now c.tell_control.new.links n (controlled c.tell_control.new.node))) (sym (control_is c.args.self.now c.self.inside.config c.self.inside.controls.items c.self.inside.agents.items c.args.node c.len.result c.in-Control.place c.self.view_is (omega (arith, c.len.ensures, c.self.inside.controls.ok.0)) c.index_mut.result.now c.in-Control.ensures.number c.in-Control.ensures.within c.index_mut.ensures.value))
    c.tell_control.ensures.passes)

pub unreachable-requires : goal.unreachable-requires
unreachable-requires c =
    let is = config_is c.args.self.now c.self.inside.config c.self.inside.controls.items c.self.inside.agents.items c.args.node c.self.view_is c.in-Configuration.ensures.number in
    let both : Configuring c.self.inside.config.setup ≡ Controlling c.requires.control.0 = sym (ap (λ (n : Inner). n.who) is) ∙ c.requires.control.1 in cc

pub unreachable-requires-in-Agent : goal.unreachable-requires-in-Agent
unreachable-requires-in-Agent c =
    let n = c.self.inside in
    let many : c.len.result ≡ length n.controls.items = omega (arith, c.len.ensures, n.controls.ok.0) in
    let within = agent_within c.args.self.now n.config n.controls.items n.agents.items c.args.node c.len.result c.in-Agent.field-0 c.self.view_is many c.in-Agent.ensures.number c.requires.node in
    let there = standing_at n.agents.items c.in-Agent.field-0 within in
    let is = agent_is c.args.self.now n.config n.controls.items n.agents.items c.args.node c.len.result c.in-Agent.field-0 c.self.view_is many there.0 c.in-Agent.ensures.number c.requires.node there.1 in
    let both : Forwarding there.0.plan ≡ Controlling c.requires.control.0 = sym (ap (λ (n : Inner). n.who) is) ∙ c.requires.control.1 in cc
