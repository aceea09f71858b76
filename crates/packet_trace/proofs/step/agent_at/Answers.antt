use Rattle.std.proofs.Common.{◌==◌, ◌∙◌, ap, sym, map}
use Rattle.ov_types.specs.declared.prefix.Addr.{Addr}
use Rattle.route_targets.specs.Forwarding.{Forwarder}
use Rattle.packet_trace.proofs.Places.{found_here, found_later, mapped_at}
use Rattle.packet_trace.proofs.step.agent_at.Goals as goal

pub returns-then-eq-clause-agent : goal.returns-then-eq-clause-agent
returns-then-eq-clause-agent g c =
    let F = g.V.Vrouter.forwarder in
    let x = c.index-agents-place.result in
    let at = mapped_at F c.args.agents.now c.loop-place.place x c.loop-place-test.true c.index-agents-place.is in
    at ∙ sym (found_here (λ (f : Forwarder). f.address.0 == c.args.address.0) (map F c.args.agents.now) c.loop-place.place (F x) at
    (ap (λ (a : Addr). a.0 == c.args.address.0) (sym c.address.ensures) ∙ sym c.eq.ensures ∙ c.if-eq.true)) ∙ sym c.loop-place.invariant

pub loop-place-preserved : goal.loop-place-preserved
loop-place-preserved g c =
    let F = g.V.Vrouter.forwarder in
    let x = c.index-agents-place.result in
    let at = mapped_at F c.args.agents.now c.loop-place.place x c.loop-place-test.true c.index-agents-place.is in
    c.loop-place.invariant ∙ found_later (λ (f : Forwarder). f.address.0 == c.args.address.0) (map F c.args.agents.now) c.loop-place.place (F x) at
    (ap (λ (a : Addr). a.0 == c.args.address.0) (sym c.address.ensures) ∙ sym c.eq.ensures ∙ c.if-eq.false)
