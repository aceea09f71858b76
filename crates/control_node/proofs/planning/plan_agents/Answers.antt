use Rattle.std.proofs.Common.{◌≡◌, ◌+◌, ◌++◌, ◌<◌, suc, length, take, drop, sym, ◌∙◌, subst, set, arith, get_or}
use Rattle.std.proofs.Math.Seq.{map-set_same}
use Rattle.control_node.specs.Ends.{IsAgentEnd}
use Rattle.control_node.specs.Planning.{AreAgentsTold, IsAgentTold, agent_plan, agent_plans}
use Rattle.control_node.specs.Tracking.{IsAgentTracked}
use Rattle.control_node.specs.declared.ends.AgentEnd.{AgentEnd}
use Rattle.node_core.proofs.Lists.{all-set}
use Rattle.control_node.proofs.Planned.{agents_plans_more, agents_told_more, end_at, rest_more}
use Rattle.control_node.proofs.Tracking.{agent_tracked-at}
use Rattle.control_node.proofs.planning.plan_agents.Goals as goal

pub plan_agent-requires-clause-tracked : goal.plan_agent-requires-clause-tracked
plan_agent-requires-clause-tracked c =
    let l = c.loop-end in let d = c.args.dirty.now in let h = c.args.tables.now in
    let lt : l.end-index < length c.args.ends.now = omega arith in
    let is = sym c.end-item.is ∙ end_at c.args.ends.now l.ends l.end-index c.end-item.result l.invariant.rest c.end-item.is in
    λ sends all.
    subst (λ s. IsAgentTracked d h s (get_or l.ends l.end-index c.end-item.result)) (sym l.invariant.number)
    (subst (IsAgentTracked d h (c.args.first + l.end-index)) (sym is)
    (agent_tracked-at d h c.args.first c.args.ends.now l.end-index c.end-item.result (c.requires.tracked all) lt)) sends all

pub returns-in_err-plan_agent-clause-ids : goal.returns-in_err-plan_agent-clause-ids
returns-in_err-plan_agent-clause-ids c =
    map-set_same (λ (e : AgentEnd). e.id) c.loop-end.ends c.loop-end.end-index c.plan_agent.new.end c.end-item.result
    c.in_err-plan_agent.ensures.id
    ∙ c.loop-end.invariant.ids

pub returns-in_err-push-clause-ids : goal.returns-in_err-push-clause-ids
returns-in_err-push-clause-ids c =
    map-set_same (λ (e : AgentEnd). e.id) c.loop-end.ends c.loop-end.end-index c.plan_agent.new.end c.end-item.result
    c.in_ok-plan_agent.ensures.id
    ∙ c.loop-end.invariant.ids

pub loop-end-preserved : goal.loop-end-preserved
loop-end-preserved c =
    let l = c.loop-end in let inv = l.invariant in let h = c.args.tables.now in let n = c.args.first in
    let lt : l.end-index < length c.args.ends.now = omega arith in
    let more : suc l.end-index ≡ l.end-index + 1 = omega arith in
    record {
      number = omega (arith, inv.number);
      ends = all-set IsAgentEnd l.ends l.end-index c.plan_agent.new.end inv.ends c.in_ok-plan_agent.ensures.end;
      ids = map-set_same (λ (e : AgentEnd). e.id) l.ends l.end-index c.plan_agent.new.end c.end-item.result
          c.in_ok-plan_agent.ensures.id
          ∙ inv.ids;
      told = subst
          (λ j. AreAgentsTold h n (take j c.args.ends.now) (take j (set l.ends l.end-index c.plan_agent.new.end))) more
          (agents_told_more h n c.args.ends.now l.ends l.end-index c.end-item.result c.plan_agent.new.end lt (omega arith)
          inv.rest c.end-item.is inv.told
          (subst (λ s. IsAgentTold h s c.end-item.result c.plan_agent.new.end) inv.number
          (subst (λ (e : AgentEnd). IsAgentTold h l.session e c.plan_agent.new.end) (sym c.end-item.is)
          c.in_ok-plan_agent.ensures.told)));
      rest = subst (λ j. drop j (set l.ends l.end-index c.plan_agent.new.end) ≡ drop j c.args.ends.now) more
          (rest_more c.args.ends.now l.ends l.end-index c.plan_agent.new.end inv.rest);
      plans = subst (λ j. c.push.new.self.items ≡ c.args.plans.now.items ++ agent_plans h n (take j c.args.ends.now)) more
          (agents_plans_more h n c.args.ends.now l.ends l.end-index c.end-item.result c.args.plans.now.items
          l.plans.items c.push.new.self.items c.in_ok-plan_agent.field-0 lt inv.rest c.end-item.is inv.plans
          (c.in_ok-plan_agent.ensures.plan
          ∙ (λ j. agent_plan h (inv.number j) (sym c.end-item.is j)))
          c.in_ok-push.ensures.items);
    }
