use Rattle.std.proofs.Common.{◌<◌, length, arith, ◌∙◌}
use Rattle.vpn_tables.specs.Changes.{with_agent}
use Rattle.control_node.proofs.Made.{agents_seated}
use Rattle.control_node.proofs.making.seat_agents.Goals as goal

pub loop-agent-preserved : goal.loop-agent-preserved
loop-agent-preserved c =
    let l = c.loop-agent in let h = c.args.tables.now in
    let lt : l.agent-index < length c.args.agents.now = omega (arith, c.loop-agent-test.true) in
    record {
      number = omega (arith, l.invariant.number);
      tables = c.in_ok-set_agent.ensures.ok
          ∙ (λ i. with_agent (l.invariant.tables i) (l.invariant.number i) c.agent-item.result.address)
          ∙ (λ i. record h {
            agents = agents_seated c.args.first c.args.agents.now l.agent-index c.agent-item.result lt
                c.agent-item.is i;
          });
    }
