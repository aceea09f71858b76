use Rattle.std.proofs.Common.{arith, ap, subst, sym, ◌≡◌, ◌<◌, ◌∙◌, length}
use Rattle.std.proofs.lemmas.Result.{IfOk-weaker, on_err_weaker, on_ok_weaker}
use Rattle.running_nodes.specs.Controls.{controls_of}
use Rattle.running_nodes.specs.Moving.{number_for}
use Rattle.running_nodes.specs.Seats.{Configuring, Controlling, Forwarding, others_of}
use Rattle.running_nodes.specs.Changes.{joined_inner}
use Rattle.running_nodes.specs.Halves.{Inner}
use Rattle.running_nodes.proofs.Numbers.{agent_is, agent_within, config_is, control_is, standing_at}
use Rattle.running_nodes.proofs.Shifts.{becomes, unchanged}
use Rattle.running_nodes.proofs.cores.Cores.join.Goals as goal

pub join_control-requires-clause-long : goal.join_control-requires-clause-long
join_control-requires-clause-long c =
    subst (λ (n : Inner). length n.posts ≡ length (others_of n.who))
    (control_is c.args.self.now c.self.inside.config c.self.inside.controls.items c.self.inside.agents.items c.args.node c.len.result c.in-Control.place c.self.view_is (omega (arith, c.len.ensures, c.self.inside.controls.ok.0)) c.index_mut.result.now c.in-Control.ensures.number c.in-Control.ensures.within c.index_mut.ensures.value)
    c.requires.long

pub join_control-requires-clause-kept : goal.join_control-requires-clause-kept
join_control-requires-clause-kept c =
    subst (λ (n : Inner). length n.kept ≡ length (others_of n.who))
    (control_is c.args.self.now c.self.inside.config c.self.inside.controls.items c.self.inside.agents.items c.args.node c.len.result c.in-Control.place c.self.view_is (omega (arith, c.len.ensures, c.self.inside.controls.ok.0)) c.index_mut.result.now c.in-Control.ensures.number c.in-Control.ensures.within c.index_mut.ensures.value)
    c.requires.kept

pub join_control-requires-clause-room : goal.join_control-requires-clause-room
join_control-requires-clause-room c =
    subst (λ (n : Inner). length (others_of n.who) < 65535)
    (control_is c.args.self.now c.self.inside.config c.self.inside.controls.items c.self.inside.agents.items c.args.node c.len.result c.in-Control.place c.self.view_is (omega (arith, c.len.ensures, c.self.inside.controls.ok.0)) c.index_mut.result.now c.in-Control.ensures.number c.in-Control.ensures.within c.index_mut.ensures.value)
    c.requires.room

pub returns-clause-number : goal.returns-clause-number
returns-clause-number c =
    IfOk-weaker c.join_control.result (λ number. number ≡ number_for (controls_of c.index_mut.result.now.plan)) _
    (λ number is k who.
    let both : Controlling (controls_of c.index_mut.result.now.plan) ≡ Controlling k = sym (ap (λ (n : Inner). n.who) (control_is c.args.self.now c.self.inside.config c.self.inside.controls.items c.self.inside.agents.items c.args.node c.len.result c.in-Control.place c.self.view_is (omega (arith, c.len.ensures, c.self.inside.controls.ok.0)) c.index_mut.result.now c.in-Control.ensures.number c.in-Control.ensures.within c.index_mut.ensures.value)) ∙ who in
    let same : controls_of c.index_mut.result.now.plan ≡ k = cc in
    is ∙ ap number_for same)
    c.join_control.ensures.number

pub returns-clause-joined : goal.returns-clause-joined
returns-clause-joined c =
    on_ok_weaker c.join_control.result (λ is. becomes c.args.self.now c.self.inside.config c.self.inside.controls.items c.self.inside.agents.items c.args.node c.len.result c.in-Control.place c.self.view_is (omega (arith, c.len.ensures, c.self.inside.controls.ok.0)) c.in-Control.ensures.number c.in-Control.ensures.within c.requires.node c.index_mut.result.now c.join_control.new.node c.index_mut.ensures.value (joined_inner c.args.agent) is)
    c.join_control.ensures.joined

pub returns-clause-err : goal.returns-clause-err
returns-clause-err c =
    on_err_weaker c.join_control.result (λ same. unchanged c.args.self.now c.self.inside.config c.self.inside.controls.items c.self.inside.agents.items c.args.node c.len.result c.in-Control.place c.self.view_is (omega (arith, c.len.ensures, c.self.inside.controls.ok.0)) c.in-Control.ensures.number c.in-Control.ensures.within c.requires.node c.index_mut.result.now c.join_control.new.node c.index_mut.ensures.value same)
    c.join_control.ensures.err

pub unreachable-requires : goal.unreachable-requires
unreachable-requires c =
    let is = config_is c.args.self.now c.self.inside.config c.self.inside.controls.items c.self.inside.agents.items c.args.node c.self.view_is c.in-Configuration.ensures.number in
    let both : Configuring c.self.inside.config.setup ≡ Controlling c.requires.control.0 = sym (ap (λ (n : Inner). n.who) is) ∙ c.requires.control.1 in cc

pub unreachable-requires-in-Agent : goal.unreachable-requires-in-Agent
unreachable-requires-in-Agent c =
    let n = c.self.inside in
    let many : c.len.result ≡ length n.controls.items = omega (arith, c.len.ensures, n.controls.ok.0) in
    let within = agent_within c.args.self.now n.config n.controls.items n.agents.items c.args.node c.len.result c.in-Agent.field-0 c.self.view_is many c.in-Agent.ensures.number c.requires.node in
    let there = standing_at n.agents.items c.in-Agent.field-0 within in
    let is = agent_is c.args.self.now n.config n.controls.items n.agents.items c.args.node c.len.result c.in-Agent.field-0 c.self.view_is many there.0 c.in-Agent.ensures.number c.requires.node there.1 in
    let both : Forwarding there.0.plan ≡ Controlling c.requires.control.0 = sym (ap (λ (n : Inner). n.who) is) ∙ c.requires.control.1 in cc
