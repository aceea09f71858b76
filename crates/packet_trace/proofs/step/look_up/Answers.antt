use Rattle.std.proofs.Common.{◌∙◌, sym, map, ap, subst, Some, Option}
use Rattle.ov_types.specs.declared.rows.Attached.{Attached}
use Rattle.ov_types.specs.declared.rows.Attached.TheVariants.{Port, Circuit}
use Rattle.packet_trace.specs.Circuits.{IsOfAUse}
use Rattle.packet_trace.proofs.Places.{mapped_at}
use Rattle.packet_trace.proofs.Walks.{in_range, leads, leads_on, of_a_use}
use Rattle.packet_trace.proofs.step.look_up.Goals as goal

pub behind-requires-clause-first : goal.behind-requires-clause-first
behind-requires-clause-first g c =
    let F = g.V.Vrouter.forwarder in
    (in_range c.in-Some-Circuit.circuit c.in-Some-Circuit.service (subst IsOfAUse c.in-Some-Circuit.field-0-is
    (of_a_use (F c.index-agents-agent.result).rows c.in-Some.entry.label c.in-Some-Circuit.field-0
    c.find.ensures.circuits (sym c.find.ensures.found ∙ c.in-Some-Circuit.is)))).0

pub behind-requires-clause-last : goal.behind-requires-clause-last
behind-requires-clause-last g c =
    let F = g.V.Vrouter.forwarder in
    (in_range c.in-Some-Circuit.circuit c.in-Some-Circuit.service (subst IsOfAUse c.in-Some-Circuit.field-0-is
    (of_a_use (F c.index-agents-agent.result).rows c.in-Some.entry.label c.in-Some-Circuit.field-0
    c.find.ensures.circuits (sym c.find.ensures.found ∙ c.in-Some-Circuit.is)))).1

pub returns-in-None-clause-leading : goal.returns-in-None-clause-leading
returns-in-None-clause-leading g c =
    let F = g.V.Vrouter.forwarder in
    let at = mapped_at F c.args.agents.now c.args.place.agent c.index-agents-place.result c.requires c.index-agents-place.is in
    let at2 = mapped_at F c.args.agents.now c.in-Some-agent_at.agent c.index-agents-agent.result c.in-Some-agent_at.ensures.place c.index-agents-agent.is in
    sym (leads (map F c.args.agents.now) c.args.address.0 c.args.place (F c.index-agents-place.result) (F c.index-agents-agent.result) c.in-Some.entry _ at
    (sym c.in-Some.ensures) (sym c.in-Some-agent_at.ensures.agent ∙ at2) (sym c.find.ensures.found ∙ c.in-None.is))

pub returns-in-Some-Port-clause-leading : goal.returns-in-Some-Port-clause-leading
returns-in-Some-Port-clause-leading g c =
    let F = g.V.Vrouter.forwarder in
    let at = mapped_at F c.args.agents.now c.args.place.agent c.index-agents-place.result c.requires c.index-agents-place.is in
    let at2 = mapped_at F c.args.agents.now c.in-Some-agent_at.agent c.index-agents-agent.result c.in-Some-agent_at.ensures.place c.index-agents-agent.is in
    let some : Attached → Option Attached = λ t. Some t in
    sym (leads (map F c.args.agents.now) c.args.address.0 c.args.place (F c.index-agents-place.result) (F c.index-agents-agent.result) c.in-Some.entry
    (Some (Port c.in-Some-Port.port c.in-Some-Port.field-0-1)) at
    (sym c.in-Some.ensures) (sym c.in-Some-agent_at.ensures.agent ∙ at2) (sym c.find.ensures.found ∙ c.in-Some-Port.is ∙ ap some c.in-Some-Port.field-0-is))

pub returns-in-Some-Circuit-clause-leading : goal.returns-in-Some-Circuit-clause-leading
returns-in-Some-Circuit-clause-leading g c =
    let F = g.V.Vrouter.forwarder in
    let at = mapped_at F c.args.agents.now c.args.place.agent c.index-agents-place.result c.requires c.index-agents-place.is in
    let at2 = mapped_at F c.args.agents.now c.in-Some-agent_at.agent c.index-agents-agent.result c.in-Some-agent_at.ensures.place c.index-agents-agent.is in
    let some : Attached → Option Attached = λ t. Some t in
    leads_on (map F c.args.agents.now) c.args.address.0 (F c.index-agents-agent.result) c.in-Some-agent_at.agent c.in-Some-Circuit.circuit c.in-Some-Circuit.service c.behind.result c.behind.ensures at2
    ∙ sym (leads (map F c.args.agents.now) c.args.address.0 c.args.place (F c.index-agents-place.result) (F c.index-agents-agent.result) c.in-Some.entry
    (Some (Circuit c.in-Some-Circuit.circuit c.in-Some-Circuit.service)) at
    (sym c.in-Some.ensures) (sym c.in-Some-agent_at.ensures.agent ∙ at2) (sym c.find.ensures.found ∙ c.in-Some-Circuit.is ∙ ap some c.in-Some-Circuit.field-0-is))
