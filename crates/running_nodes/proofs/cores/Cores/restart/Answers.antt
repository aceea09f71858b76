use Rattle.std.proofs.Common.{arith, ap, subst, sym, ◌∙◌, ◌≡◌, length, set}
use Rattle.running_nodes.specs.Seats.{others_of}
use Rattle.running_nodes.specs.Changes.{emptied_inner}
use Rattle.running_nodes.specs.Halves.{Inner}
use Rattle.running_nodes.proofs.Numbers.{agent_is, agent_set, control_is, control_set}
use Rattle.running_nodes.proofs.Stepping.{control_emptied}
use Rattle.running_nodes.proofs.cores.Cores.restart.Goals as goal

pub restart_agent-requires-clause-long : goal.restart_agent-requires-clause-long
restart_agent-requires-clause-long c =
    subst (λ (n : Inner). length n.posts ≡ length (others_of n.who))
    (agent_is c.args.self.now c.self.inside.config c.self.inside.controls.items c.self.inside.agents.items c.args.node c.len.result c.in-Agent.place c.self.view_is (omega (arith, c.len.ensures, c.self.inside.controls.ok.0)) c.index_mut-in-Agent.result.now c.in-Agent.ensures.number c.requires.node c.index_mut-in-Agent.ensures.value)
    c.requires.long

pub restart_agent-requires-clause-kept : goal.restart_agent-requires-clause-kept
restart_agent-requires-clause-kept c =
    subst (λ (n : Inner). length n.kept ≡ length (others_of n.who))
    (agent_is c.args.self.now c.self.inside.config c.self.inside.controls.items c.self.inside.agents.items c.args.node c.len.result c.in-Agent.place c.self.view_is (omega (arith, c.len.ensures, c.self.inside.controls.ok.0)) c.index_mut-in-Agent.result.now c.in-Agent.ensures.number c.requires.node c.index_mut-in-Agent.ensures.value)
    c.requires.kept

pub returns-in-Control : goal.returns-in-Control
returns-in-Control c =
    control_set c.args.self.now c.self.inside.config c.self.inside.controls.items c.self.inside.agents.items c.args.node c.len.result c.in-Control.place c.self.view_is (omega (arith, c.len.ensures, c.self.inside.controls.ok.0)) c.restart_control.new.node c.in-Control.ensures.number c.in-Control.ensures.within
    ∙ ap (λ (n : Inner). set c.args.self.now c.args.node n) (control_emptied c.index_mut.result.now c.restart_control.new.node c.restart_control.ensures.fresh
    (subst (λ (n : Inner). length n.posts ≡ length (others_of n.who))
    (control_is c.args.self.now c.self.inside.config c.self.inside.controls.items c.self.inside.agents.items c.args.node c.len.result c.in-Control.place c.self.view_is (omega (arith, c.len.ensures, c.self.inside.controls.ok.0)) c.index_mut.result.now c.in-Control.ensures.number c.in-Control.ensures.within c.index_mut.ensures.value)
    c.requires.long)
    (subst (λ (n : Inner). length n.kept ≡ length (others_of n.who))
    (control_is c.args.self.now c.self.inside.config c.self.inside.controls.items c.self.inside.agents.items c.args.node c.len.result c.in-Control.place c.self.view_is (omega (arith, c.len.ensures, c.self.inside.controls.ok.0)) c.index_mut.result.now c.in-Control.ensures.number c.in-Control.ensures.within c.index_mut.ensures.value)
    c.requires.kept)
    ∙ ap emptied_inner (sym
    (control_is c.args.self.now c.self.inside.config c.self.inside.controls.items c.self.inside.agents.items c.args.node c.len.result c.in-Control.place c.self.view_is (omega (arith, c.len.ensures, c.self.inside.controls.ok.0)) c.index_mut.result.now c.in-Control.ensures.number c.in-Control.ensures.within c.index_mut.ensures.value)))

pub returns-in-Agent : goal.returns-in-Agent
returns-in-Agent c =
    agent_set c.args.self.now c.self.inside.config c.self.inside.controls.items c.self.inside.agents.items c.args.node c.len.result c.in-Agent.place c.self.view_is (omega (arith, c.len.ensures, c.self.inside.controls.ok.0)) c.restart_agent.new.node c.in-Agent.ensures.number
    ∙ ap (λ (n : Inner). set c.args.self.now c.args.node n) (c.restart_agent.ensures.emptied ∙ ap emptied_inner (sym
    (agent_is c.args.self.now c.self.inside.config c.self.inside.controls.items c.self.inside.agents.items c.args.node c.len.result c.in-Agent.place c.self.view_is (omega (arith, c.len.ensures, c.self.inside.controls.ok.0)) c.index_mut-in-Agent.result.now c.in-Agent.ensures.number c.requires.node c.index_mut-in-Agent.ensures.value)))
