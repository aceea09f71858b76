use Rattle.std.proofs.Common.{ap, set, ◌∙◌}
use Rattle.std.proofs.lemmas.List.{set-get_or}
use Rattle.packet_trace.proofs.Places.{map_set}
use Rattle.packet_trace.proofs.step.verdict_at.Goals as goal

pub returns-clause-same : goal.returns-clause-same
returns-clause-same g c =
    map_set g.V.Vrouter.forwarder c.args.agents.now c.args.source.agent c.verdict.new.self c.index-agents-source.result c.verdict.ensures.same

pub returns-clause-kept : goal.returns-clause-kept
returns-clause-kept g c =
    ap (λ v. set c.args.agents.now c.args.source.agent v) c.verdict.ensures.kept
    ∙ set-get_or c.args.agents.now c.args.source.agent c.index-agents-source.result
