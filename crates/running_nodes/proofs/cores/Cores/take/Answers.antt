use Rattle.std.proofs.Common.{arith, ap, subst, sym, ◌≡◌, ◌<◌, IfOk, None, Some, true, false, get_or, length, set}
use Rattle.node_core.specs.Whole.{Comes, session_of}
use Rattle.running_nodes.specs.ControlNode.ControlPlan.{ControlPlan}
use Rattle.agent_node.specs.declared.plan.AgentPlan.{AgentPlan}
use Rattle.running_nodes.specs.MachineModel.Setup.{Name}
use Rattle.running_nodes.specs.Controls.{controls_of}
use Rattle.running_nodes.specs.Seats.{Controlling, Forwarding, name_of, others_of}
use Rattle.running_nodes.specs.Changes.{TakesOver}
use Rattle.running_nodes.specs.Cores.{controlled, forwarded, inners}
use Rattle.running_nodes.specs.Halves.{Inner, inner, live}
use Rattle.running_nodes.proofs.Numbers.{agent_is, agent_set, changes_one, control_is, control_set, set_at}
use Rattle.running_nodes.proofs.cores.Cores.take.Goals as goal

pub take_control-requires-clause-known : goal.take_control-requires-clause-known
take_control-requires-clause-known c =
    subst (λ (n : Inner). session_of c.args.input < length (others_of n.who))
    (control_is c.args.self.now c.self.inside.config c.self.inside.controls.items c.self.inside.agents.items c.args.node c.len.result c.in-Control.place c.self.view_is (omega (arith, c.len.ensures, c.self.inside.controls.ok.0)) c.index_mut.result.now c.in-Control.ensures.number c.in-Control.ensures.within c.index_mut.ensures.value)
    c.requires.known

pub take_control-requires-clause-taken : goal.take_control-requires-clause-taken
take_control-requires-clause-taken c =
    subst (λ (n : Inner). (b : Name) × (get_or (others_of n.who) (session_of c.args.input) None ≡ Some b))
    (control_is c.args.self.now c.self.inside.config c.self.inside.controls.items c.self.inside.agents.items c.args.node c.len.result c.in-Control.place c.self.view_is (omega (arith, c.len.ensures, c.self.inside.controls.ok.0)) c.index_mut.result.now c.in-Control.ensures.number c.in-Control.ensures.within c.index_mut.ensures.value)
    c.requires.taken

pub take_control-requires-clause-long : goal.take_control-requires-clause-long
take_control-requires-clause-long c =
    subst (λ (n : Inner). length n.posts ≡ length (others_of n.who))
    (control_is c.args.self.now c.self.inside.config c.self.inside.controls.items c.self.inside.agents.items c.args.node c.len.result c.in-Control.place c.self.view_is (omega (arith, c.len.ensures, c.self.inside.controls.ok.0)) c.index_mut.result.now c.in-Control.ensures.number c.in-Control.ensures.within c.index_mut.ensures.value)
    c.requires.long

pub take_control-requires-clause-linked : goal.take_control-requires-clause-linked
take_control-requires-clause-linked c =
    subst (λ (n : Inner). length c.args.links.now ≡ length (others_of n.who))
    (control_is c.args.self.now c.self.inside.config c.self.inside.controls.items c.self.inside.agents.items c.args.node c.len.result c.in-Control.place c.self.view_is (omega (arith, c.len.ensures, c.self.inside.controls.ok.0)) c.index_mut.result.now c.in-Control.ensures.number c.in-Control.ensures.within c.index_mut.ensures.value)
    c.requires.linked

pub take_control-requires-clause-kept : goal.take_control-requires-clause-kept
take_control-requires-clause-kept c =
    subst (λ (n : Inner). length n.kept ≡ length (others_of n.who))
    (control_is c.args.self.now c.self.inside.config c.self.inside.controls.items c.self.inside.agents.items c.args.node c.len.result c.in-Control.place c.self.view_is (omega (arith, c.len.ensures, c.self.inside.controls.ok.0)) c.index_mut.result.now c.in-Control.ensures.number c.in-Control.ensures.within c.index_mut.ensures.value)
    c.requires.kept

pub take_control-requires-clause-comes : goal.take_control-requires-clause-comes
take_control-requires-clause-comes c =
    subst (λ (n : Inner). Comes (λ i. live n i ≡ true) (λ i. live n i ≡ false) c.args.input)
    (control_is c.args.self.now c.self.inside.config c.self.inside.controls.items c.self.inside.agents.items c.args.node c.len.result c.in-Control.place c.self.view_is (omega (arith, c.len.ensures, c.self.inside.controls.ok.0)) c.index_mut.result.now c.in-Control.ensures.number c.in-Control.ensures.within c.index_mut.ensures.value)
    c.requires.comes

pub returns-in-Control-clause-one : goal.returns-in-Control-clause-one
returns-in-Control-clause-one c =
    changes_one c.args.self.now (inners c.self.inside.config (set c.self.inside.controls.items c.in-Control.place c.take_control.new.node) c.self.inside.agents.items) c.args.node (controlled c.index_mut.result.now) (controlled c.take_control.new.node)
    (control_is c.args.self.now c.self.inside.config c.self.inside.controls.items c.self.inside.agents.items c.args.node c.len.result c.in-Control.place c.self.view_is (omega (arith, c.len.ensures, c.self.inside.controls.ok.0)) c.index_mut.result.now c.in-Control.ensures.number c.in-Control.ensures.within c.index_mut.ensures.value)
    (control_set c.args.self.now c.self.inside.config c.self.inside.controls.items c.self.inside.agents.items c.args.node c.len.result c.in-Control.place c.self.view_is (omega (arith, c.len.ensures, c.self.inside.controls.ok.0)) c.take_control.new.node c.in-Control.ensures.number c.in-Control.ensures.within)
    c.requires.node (ap (λ (plan : ControlPlan). name_of (Controlling (controls_of plan))) c.take_control.ensures.plan) (ap (λ (plan : ControlPlan). others_of (Controlling (controls_of plan))) c.take_control.ensures.plan) c.take_control.ensures.long c.take_control.ensures.kept

pub returns-in-Control-clause-takes : goal.returns-in-Control-clause-takes
returns-in-Control-clause-takes c =
    let now : inner (inners c.self.inside.config (set c.self.inside.controls.items c.in-Control.place c.take_control.new.node) c.self.inside.agents.items) c.args.node ≡ controlled c.take_control.new.node =
    set_at c.args.self.now (inners c.self.inside.config (set c.self.inside.controls.items c.in-Control.place c.take_control.new.node) c.self.inside.agents.items) c.args.node (controlled c.take_control.new.node) (control_set c.args.self.now c.self.inside.config c.self.inside.controls.items c.self.inside.agents.items c.args.node c.len.result c.in-Control.place c.self.view_is (omega (arith, c.len.ensures, c.self.inside.controls.ok.0)) c.take_control.new.node c.in-Control.ensures.number c.in-Control.ensures.within) c.requires.node in
    subst (λ (n' : Inner). IfOk c.take_control.result (λ _. TakesOver c.args.links.now c.take_control.new.links (inner c.args.self.now c.args.node) n' c.args.input)) (sym now)
    (subst (λ (n : Inner). IfOk c.take_control.result (λ _. TakesOver c.args.links.now c.take_control.new.links n (controlled c.take_control.new.node) c.args.input)) (sym (control_is c.args.self.now c.self.inside.config c.self.inside.controls.items c.self.inside.agents.items c.args.node c.len.result c.in-Control.place c.self.view_is (omega (arith, c.len.ensures, c.self.inside.controls.ok.0)) c.index_mut.result.now c.in-Control.ensures.number c.in-Control.ensures.within c.index_mut.ensures.value))
    c.take_control.ensures.takes)

pub take_agent-requires-clause-known : goal.take_agent-requires-clause-known
take_agent-requires-clause-known c =
    subst (λ (n : Inner). session_of c.args.input < length (others_of n.who))
    (agent_is c.args.self.now c.self.inside.config c.self.inside.controls.items c.self.inside.agents.items c.args.node c.len.result c.in-Agent.place c.self.view_is (omega (arith, c.len.ensures, c.self.inside.controls.ok.0)) c.index_mut-in-Agent.result.now c.in-Agent.ensures.number c.requires.node c.index_mut-in-Agent.ensures.value)
    c.requires.known

pub take_agent-requires-clause-long : goal.take_agent-requires-clause-long
take_agent-requires-clause-long c =
    subst (λ (n : Inner). length n.posts ≡ length (others_of n.who))
    (agent_is c.args.self.now c.self.inside.config c.self.inside.controls.items c.self.inside.agents.items c.args.node c.len.result c.in-Agent.place c.self.view_is (omega (arith, c.len.ensures, c.self.inside.controls.ok.0)) c.index_mut-in-Agent.result.now c.in-Agent.ensures.number c.requires.node c.index_mut-in-Agent.ensures.value)
    c.requires.long

pub take_agent-requires-clause-kept : goal.take_agent-requires-clause-kept
take_agent-requires-clause-kept c =
    subst (λ (n : Inner). length n.kept ≡ length (others_of n.who))
    (agent_is c.args.self.now c.self.inside.config c.self.inside.controls.items c.self.inside.agents.items c.args.node c.len.result c.in-Agent.place c.self.view_is (omega (arith, c.len.ensures, c.self.inside.controls.ok.0)) c.index_mut-in-Agent.result.now c.in-Agent.ensures.number c.requires.node c.index_mut-in-Agent.ensures.value)
    c.requires.kept

pub take_agent-requires-clause-linked : goal.take_agent-requires-clause-linked
take_agent-requires-clause-linked c =
    subst (λ (n : Inner). length c.args.links.now ≡ length (others_of n.who))
    (agent_is c.args.self.now c.self.inside.config c.self.inside.controls.items c.self.inside.agents.items c.args.node c.len.result c.in-Agent.place c.self.view_is (omega (arith, c.len.ensures, c.self.inside.controls.ok.0)) c.index_mut-in-Agent.result.now c.in-Agent.ensures.number c.requires.node c.index_mut-in-Agent.ensures.value)
    c.requires.linked

pub take_agent-requires-clause-comes : goal.take_agent-requires-clause-comes
take_agent-requires-clause-comes c =
    subst (λ (n : Inner). Comes (λ i. live n i ≡ true) (λ i. live n i ≡ false) c.args.input)
    (agent_is c.args.self.now c.self.inside.config c.self.inside.controls.items c.self.inside.agents.items c.args.node c.len.result c.in-Agent.place c.self.view_is (omega (arith, c.len.ensures, c.self.inside.controls.ok.0)) c.index_mut-in-Agent.result.now c.in-Agent.ensures.number c.requires.node c.index_mut-in-Agent.ensures.value)
    c.requires.comes

pub returns-in-Agent-clause-one : goal.returns-in-Agent-clause-one
returns-in-Agent-clause-one c =
    changes_one c.args.self.now (inners c.self.inside.config c.self.inside.controls.items (set c.self.inside.agents.items c.in-Agent.place c.take_agent.new.node)) c.args.node (forwarded c.index_mut-in-Agent.result.now) (forwarded c.take_agent.new.node)
    (agent_is c.args.self.now c.self.inside.config c.self.inside.controls.items c.self.inside.agents.items c.args.node c.len.result c.in-Agent.place c.self.view_is (omega (arith, c.len.ensures, c.self.inside.controls.ok.0)) c.index_mut-in-Agent.result.now c.in-Agent.ensures.number c.requires.node c.index_mut-in-Agent.ensures.value)
    (agent_set c.args.self.now c.self.inside.config c.self.inside.controls.items c.self.inside.agents.items c.args.node c.len.result c.in-Agent.place c.self.view_is (omega (arith, c.len.ensures, c.self.inside.controls.ok.0)) c.take_agent.new.node c.in-Agent.ensures.number)
    c.requires.node (ap (λ (plan : AgentPlan). name_of (Forwarding plan)) c.take_agent.ensures.plan) (ap (λ (plan : AgentPlan). others_of (Forwarding plan)) c.take_agent.ensures.plan) c.take_agent.ensures.long c.take_agent.ensures.kept

pub returns-in-Agent-clause-takes : goal.returns-in-Agent-clause-takes
returns-in-Agent-clause-takes c =
    let now : inner (inners c.self.inside.config c.self.inside.controls.items (set c.self.inside.agents.items c.in-Agent.place c.take_agent.new.node)) c.args.node ≡ forwarded c.take_agent.new.node =
    set_at c.args.self.now (inners c.self.inside.config c.self.inside.controls.items (set c.self.inside.agents.items c.in-Agent.place c.take_agent.new.node)) c.args.node (forwarded c.take_agent.new.node) (agent_set c.args.self.now c.self.inside.config c.self.inside.controls.items c.self.inside.agents.items c.args.node c.len.result c.in-Agent.place c.self.view_is (omega (arith, c.len.ensures, c.self.inside.controls.ok.0)) c.take_agent.new.node c.in-Agent.ensures.number) c.requires.node in
    subst (λ (n' : Inner). IfOk c.take_agent.result (λ _. TakesOver c.args.links.now c.take_agent.new.links (inner c.args.self.now c.args.node) n' c.args.input)) (sym now)
    (subst (λ (n : Inner). IfOk c.take_agent.result (λ _. TakesOver c.args.links.now c.take_agent.new.links n (forwarded c.take_agent.new.node) c.args.input)) (sym (agent_is c.args.self.now c.self.inside.config c.self.inside.controls.items c.self.inside.agents.items c.args.node c.len.result c.in-Agent.place c.self.view_is (omega (arith, c.len.ensures, c.self.inside.controls.ok.0)) c.index_mut-in-Agent.result.now c.in-Agent.ensures.number c.requires.node c.index_mut-in-Agent.ensures.value))
    c.take_agent.ensures.takes)
