use Rattle.std.proofs.Common.{◌≡◌, None, Some, length, arith, refl, subst, sym}
use Rattle.running_nodes.specs.Cores.{HoldsAs, IsVacated, held_by}
use Rattle.running_nodes.specs.Halves.{Inner}
use Rattle.running_nodes.proofs.Numbers.{agent_is, agent_within, all_there, config_is, control_is, standing_at}
use Rattle.running_nodes.proofs.Vacant.{same_but_quiet}
use Rattle.running_nodes.proofs.cores.Cores.control.Goals as goal

pub returns-in-Configuration : goal.returns-in-Configuration
returns-in-Configuration c =
    subst (λ (n : Inner). HoldsAs None (held_by n.who n.posts))
    (sym (config_is c.args.self.now c.self.inside.config c.self.inside.controls.items c.self.inside.agents.items c.args.node c.self.view_is c.in-Configuration.ensures.number)) tt

pub returns-in-Control : goal.returns-in-Control
returns-in-Control c =
    subst (λ (n : Inner). HoldsAs (Some c.index.result.now) (held_by n.who n.posts))
    (sym (control_is c.args.self.now c.self.inside.config c.self.inside.controls.items c.self.inside.agents.items c.args.node c.len.result c.in-Control.place c.self.view_is (omega (arith, c.len.ensures, c.self.inside.controls.ok.0)) c.index.result.now c.in-Control.ensures.number c.in-Control.ensures.within c.index.ensures)) (
      refl,
      same_but_quiet c.index.result.now.plan c.index.result.now.posts
          (all_there IsVacated c.self.inside.controls.items c.in-Control.place c.index.result.now c.self.invariant.1 (omega (arith, c.len.ensures, c.self.inside.controls.ok.0, c.in-Control.ensures.within)) c.index.ensures).none,
    )

pub returns-in-Agent : goal.returns-in-Agent
returns-in-Agent c =
    let n = c.self.inside in
    let many : c.len.result ≡ length n.controls.items = omega (arith, c.len.ensures, n.controls.ok.0) in
    let within = agent_within c.args.self.now n.config n.controls.items n.agents.items c.args.node c.len.result c.in-Agent.field-0 c.self.view_is many c.in-Agent.ensures.number c.requires in
    let there = standing_at n.agents.items c.in-Agent.field-0 within in
    subst (λ (n : Inner). HoldsAs None (held_by n.who n.posts))
    (sym (agent_is c.args.self.now n.config n.controls.items n.agents.items c.args.node c.len.result c.in-Agent.field-0 c.self.view_is many there.0 c.in-Agent.ensures.number c.requires there.1)) tt
