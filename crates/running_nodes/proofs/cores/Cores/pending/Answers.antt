use Rattle.std.proofs.Common.{arith, ap, subst, sym, ◌∙◌, ◌<◌, length}
use Rattle.node_core.specs.Keeping.{kept_at}
use Rattle.running_nodes.specs.Controls.{controls_of}
use Rattle.running_nodes.specs.Seats.{Configuring, Controlling, Forwarding, others_of}
use Rattle.running_nodes.specs.Halves.{Inner}
use Rattle.running_nodes.proofs.Numbers.{agent_is, config_is, control_is}
use Rattle.running_nodes.proofs.Stepping.{sessions_of_agent, sessions_of_config}
use Rattle.running_nodes.proofs.Vacant.{sessions_there}
use Rattle.running_nodes.proofs.cores.Cores.pending.Goals as goal

pub pending-requires : goal.pending-requires
pending-requires c =
    let here : c.args.session < length (others_of (Configuring c.self.inside.config.setup)) =
    subst (λ (n : Inner). c.args.session < length (others_of n.who))
    (config_is c.args.self.now c.self.inside.config c.self.inside.controls.items c.self.inside.agents.items c.args.node c.self.view_is c.in-Configuration.ensures.number)
    c.requires.session in
    let many = sessions_of_config c.self.inside.config.setup in
    omega (arith, here, many)

pub pending-requires-in-Control : goal.pending-requires-in-Control
pending-requires-in-Control c =
    let here : c.args.session < length (others_of (Controlling (controls_of c.index.result.now.plan))) =
    subst (λ (n : Inner). c.args.session < length (others_of n.who))
    (control_is c.args.self.now c.self.inside.config c.self.inside.controls.items c.self.inside.agents.items c.args.node c.len.result c.in-Control.place c.self.view_is (omega (arith, c.len.ensures, c.self.inside.controls.ok.0)) c.index.result.now c.in-Control.ensures.number c.in-Control.ensures.within c.index.ensures)
    c.requires.session in
    let many = sessions_there c.index.result.now.plan in
    omega (arith, here, many)

pub pending-requires-in-Agent : goal.pending-requires-in-Agent
pending-requires-in-Agent c =
    let here : c.args.session < length (others_of (Forwarding c.index-in-Agent.result.now.plan)) =
    subst (λ (n : Inner). c.args.session < length (others_of n.who))
    (agent_is c.args.self.now c.self.inside.config c.self.inside.controls.items c.self.inside.agents.items c.args.node c.len.result c.in-Agent.place c.self.view_is (omega (arith, c.len.ensures, c.self.inside.controls.ok.0)) c.index-in-Agent.result.now c.in-Agent.ensures.number c.requires.node c.index-in-Agent.ensures)
    c.requires.session in
    let many = sessions_of_agent c.index-in-Agent.result.now.plan in
    omega (arith, here, many)

pub returns-in-Control : goal.returns-in-Control
returns-in-Control c =
    c.pending-in-Control.ensures.kept
    ∙ ap (λ (n : Inner). length (kept_at n.kept c.args.session)) (sym (control_is c.args.self.now c.self.inside.config c.self.inside.controls.items c.self.inside.agents.items c.args.node c.len.result c.in-Control.place c.self.view_is (omega (arith, c.len.ensures, c.self.inside.controls.ok.0)) c.index.result.now c.in-Control.ensures.number c.in-Control.ensures.within c.index.ensures))

pub returns-in-Agent : goal.returns-in-Agent
returns-in-Agent c =
    c.pending-in-Agent.ensures.kept
    ∙ ap (λ (n : Inner). length (kept_at n.kept c.args.session)) (sym (agent_is c.args.self.now c.self.inside.config c.self.inside.controls.items c.self.inside.agents.items c.args.node c.len.result c.in-Agent.place c.self.view_is (omega (arith, c.len.ensures, c.self.inside.controls.ok.0)) c.index-in-Agent.result.now c.in-Agent.ensures.number c.requires.node c.index-in-Agent.ensures))
