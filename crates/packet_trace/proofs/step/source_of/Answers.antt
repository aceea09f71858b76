use Rattle.std.proofs.Common.{◌∙◌, ap, sym, map, option_map, Some, None}
use Rattle.route_targets.specs.Forwarding.{Forwarder, source_at}
use Rattle.packet_trace.proofs.Places.{first_here, first_later, mapped_at}
use Rattle.packet_trace.proofs.Walks.{source_is}
use Rattle.packet_trace.proofs.step.source_of.Goals as goal

pub returns-in-Some-clause-agent : goal.returns-in-Some-clause-agent
returns-in-Some-clause-agent g c =
    let F = g.V.Vrouter.forwarder in
    let x = c.index-agents-place.result in
    let at = mapped_at F c.args.agents.now c.loop-place.place x c.loop-place-test.true c.index-agents-place.is in
    ap (option_map (λ (f : Forwarder). (f, c.in-Some.instance))) at
    ∙ sym (first_here (source_at c.args.packet) (map F c.args.agents.now) c.loop-place.place (F x) (F x, c.in-Some.instance) at
    (source_is c.args.packet (F x) c.port_label-label.result (Some c.in-Some.instance) c.port_label-label.ensures (sym c.in-Some.is ∙ c.network_of.ensures)))
    ∙ sym c.loop-place.invariant

pub loop-place-preserved : goal.loop-place-preserved
loop-place-preserved g c =
    let F = g.V.Vrouter.forwarder in
    let x = c.index-agents-place.result in
    let at = mapped_at F c.args.agents.now c.loop-place.place x c.loop-place-test.true c.index-agents-place.is in
    c.loop-place.invariant ∙ first_later (source_at c.args.packet) (map F c.args.agents.now) c.loop-place.place (F x) at
    (source_is c.args.packet (F x) c.port_label-label.result None c.port_label-label.ensures (sym c.in_default.is ∙ c.network_of.ensures))
