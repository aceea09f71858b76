use Rattle.std.proofs.Common.{◌≡◌, ◌+◌, ◌++◌, drop, ◌∙◌, arith}
use Rattle.std.proofs.lemmas.Grind.{common_steps}
use Rattle.ov_io.proofs.PieceLemmas.{on_err, way_breaks, way_goes_on}
use Rattle.report.specs.Rows.{agent_lines}
use Rattle.compile_answers.specs.Lines.{agents_text}
use Rattle.compile_answers.proofs.lines.write_agents.Goals as goal

pub returns-in_err-write_agent-clause-front : goal.returns-in_err-write_agent-clause-front
returns-in_err-write_agent-clause-front g c =
    let i = c.loop-index.index in
    let split : agents_text (drop i c.args.nodes.now) (drop i c.args.tables.now)
    ≡ agent_lines c.index-nodes-index.result.name c.in-Some.rows.now
    ++ agents_text (drop (i + 1) c.args.nodes.now) (drop (i + 1) c.args.tables.now) = grind (arith, common_steps) in
    on_err c.from_residual.result _ (way_breaks _ _ _ _ _ _ _ _ c.loop-index.invariant.way split c.in_err-write_agent.ensures.front)

pub loop-index-preserved : goal.loop-index-preserved
loop-index-preserved g c =
    let i = c.loop-index.index in
    let split : agents_text (drop i c.args.nodes.now) (drop i c.args.tables.now)
    ≡ agent_lines c.index-nodes-index.result.name c.in-Some.rows.now
    ++ agents_text (drop (i + 1) c.args.nodes.now) (drop (i + 1) c.args.tables.now) = grind (arith, common_steps) in
    record {
      way = way_goes_on _ _ _ _ _ _ _ _ _ c.loop-index.invariant.way split c.in_ok-write_agent.ensures.ok;
      kept = c.in_ok-write_agent.ensures.cause ∙ c.loop-index.invariant.kept;
    }
