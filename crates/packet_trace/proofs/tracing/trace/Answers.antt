use Rattle.std.proofs.Common.{ap, map, ◌∙◌}
use Rattle.packet_trace.specs.declared.hops.Trace.{Trace}
use Rattle.packet_trace.proofs.Departing.{passes, passes_by, enters, enters_by, denied, nowhere, no_source}
use Rattle.packet_trace.proofs.tracing.trace.Goals as goal

pub returns-in_default-clause-outcome : goal.returns-in_default-clause-outcome
returns-in_default-clause-outcome g c =
    let F = map g.V.Vrouter.forwarder c.args.agents.now in
    ap (λ (t : Trace). t.outcome) c.dropped.ensures ∙ (no_source F c.args.packet c.in_default.ensures.agent).0

pub returns-in-Pass-clause-outcome : goal.returns-in-Pass-clause-outcome
returns-in-Pass-clause-outcome g c =
    let F = map g.V.Vrouter.forwarder c.args.agents.now in
    passes F c.args.packet c.in-Some.source c.verdict_at.result c.in-Some.ensures.agent c.verdict_at.ensures.said c.in-Pass.is (map g.V.Vrouter.forwarder c.verdict_at.new.agents) c.verdict_at.ensures.same c.walk.result.outcome c.walk.ensures.outcome

pub returns-in-Enter-clause-outcome : goal.returns-in-Enter-clause-outcome
returns-in-Enter-clause-outcome g c =
    let F = map g.V.Vrouter.forwarder c.args.agents.now in
    enters F c.args.packet c.in-Some.source c.verdict_at.result c.in-Some.ensures.agent c.verdict_at.ensures.said c.in-Enter.instance c.in-Enter.is (map g.V.Vrouter.forwarder c.verdict_at.new.agents) c.verdict_at.ensures.same c.walk-in-Enter.result.outcome c.walk-in-Enter.ensures.outcome

pub returns-in-Denied-clause-outcome : goal.returns-in-Denied-clause-outcome
returns-in-Denied-clause-outcome g c =
    let F = map g.V.Vrouter.forwarder c.args.agents.now in
    ap (λ (t : Trace). t.outcome) c.dropped-in-Denied.ensures ∙ (denied F c.args.packet c.in-Some.source c.verdict_at.result c.in-Some.ensures.agent c.verdict_at.ensures.said c.in-Denied.rule c.in-Denied.is).0

pub returns-in-NoDestination-clause-outcome : goal.returns-in-NoDestination-clause-outcome
returns-in-NoDestination-clause-outcome g c =
    let F = map g.V.Vrouter.forwarder c.args.agents.now in
    ap (λ (t : Trace). t.outcome) c.dropped-in-NoDestination.ensures ∙ (nowhere F c.args.packet c.in-Some.source c.verdict_at.result c.in-Some.ensures.agent c.verdict_at.ensures.said c.in-NoDestination.is).0

pub returns-in_default-clause-hops : goal.returns-in_default-clause-hops
returns-in_default-clause-hops g c =
    let F = map g.V.Vrouter.forwarder c.args.agents.now in
    ap (λ (t : Trace). t.hops) c.dropped.ensures ∙ (no_source F c.args.packet c.in_default.ensures.agent).1

pub returns-in-Pass-clause-hops : goal.returns-in-Pass-clause-hops
returns-in-Pass-clause-hops g c =
    let F = map g.V.Vrouter.forwarder c.args.agents.now in
    passes_by F c.args.packet c.in-Some.source c.verdict_at.result c.in-Some.ensures.agent c.verdict_at.ensures.said c.in-Pass.is (map g.V.Vrouter.forwarder c.verdict_at.new.agents) c.verdict_at.ensures.same c.walk.result.hops c.walk.ensures.hops

pub returns-in-Enter-clause-hops : goal.returns-in-Enter-clause-hops
returns-in-Enter-clause-hops g c =
    let F = map g.V.Vrouter.forwarder c.args.agents.now in
    enters_by F c.args.packet c.in-Some.source c.verdict_at.result c.in-Some.ensures.agent c.verdict_at.ensures.said c.in-Enter.instance c.in-Enter.is (map g.V.Vrouter.forwarder c.verdict_at.new.agents) c.verdict_at.ensures.same c.walk-in-Enter.result.hops c.walk-in-Enter.ensures.hops

pub returns-in-Denied-clause-hops : goal.returns-in-Denied-clause-hops
returns-in-Denied-clause-hops g c =
    let F = map g.V.Vrouter.forwarder c.args.agents.now in
    ap (λ (t : Trace). t.hops) c.dropped-in-Denied.ensures ∙ (denied F c.args.packet c.in-Some.source c.verdict_at.result c.in-Some.ensures.agent c.verdict_at.ensures.said c.in-Denied.rule c.in-Denied.is).1

pub returns-in-NoDestination-clause-hops : goal.returns-in-NoDestination-clause-hops
returns-in-NoDestination-clause-hops g c =
    let F = map g.V.Vrouter.forwarder c.args.agents.now in
    ap (λ (t : Trace). t.hops) c.dropped-in-NoDestination.ensures ∙ (nowhere F c.args.packet c.in-Some.source c.verdict_at.result c.in-Some.ensures.agent c.verdict_at.ensures.said c.in-NoDestination.is).1
