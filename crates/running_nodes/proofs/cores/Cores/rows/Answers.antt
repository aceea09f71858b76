use Rattle.std.proofs.Common.{arith, subst, sym, ◌≡◌, IfOk}
use Rattle.ov_types.specs.declared.rows.NodeRows.{NodeRows}
use Rattle.running_nodes.specs.Changes.{shown}
use Rattle.running_nodes.specs.Halves.{Inner}
use Rattle.running_nodes.proofs.Numbers.{agent_is, control_is}
use Rattle.running_nodes.proofs.cores.Cores.rows.Goals as goal

pub returns-in-Control : goal.returns-in-Control
returns-in-Control c =
    subst (λ (n : Inner). IfOk c.show_control.result (λ (rows : NodeRows). rows ≡ shown n))
    (sym (control_is c.args.self.now c.self.inside.config c.self.inside.controls.items c.self.inside.agents.items c.args.node c.len.result c.in-Control.place c.self.view_is (omega (arith, c.len.ensures, c.self.inside.controls.ok.0)) c.index.result.now c.in-Control.ensures.number c.in-Control.ensures.within c.index.ensures))
    c.show_control.ensures

pub returns-in-Agent : goal.returns-in-Agent
returns-in-Agent c =
    subst (λ (n : Inner). IfOk c.show_agent.result (λ (rows : NodeRows). rows ≡ shown n))
    (sym (agent_is c.args.self.now c.self.inside.config c.self.inside.controls.items c.self.inside.agents.items c.args.node c.len.result c.in-Agent.place c.self.view_is (omega (arith, c.len.ensures, c.self.inside.controls.ok.0)) c.index-in-Agent.result.now c.in-Agent.ensures.number c.requires.node c.index-in-Agent.ensures))
    c.show_agent.ensures
