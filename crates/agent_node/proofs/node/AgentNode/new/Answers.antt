use Rattle.std.proofs.Common.{List, ℕ, length, ◌∙◌, sym, ap, subst}
use Rattle.std.proofs.lemmas.List.{length-replicate}
use Rattle.node_core.specs.Keeping.{AreFew, AreOfLive}
use Rattle.node_core.proofs.Kept.{none_few, none_live}
use Rattle.node_core.specs.NodeModel.Agent.{rows as rows_of}
use Rattle.flow_acl.proofs.Keeping.{none_kept}
use Rattle.agent_node.specs.Core.{holdings, sessions}
use Rattle.agent_node.specs.Ends.{Forwarding}
use Rattle.agent_node.proofs.Posts.{nothing_shown}
use Rattle.agent_node.proofs.node.AgentNode.new.Goals as goal

pub invariant_of-result : goal.invariant_of-result
invariant_of-result c =
    let n = length c.in_ok-ends.ends.posts in
    let kept = c.in_ok-node.ensures.kept in (
      λ _. ap (λ (e : Forwarding). e.rows) c.in_ok-node.ensures.ends ∙ c.in_ok-ends.ensures.rows
          ∙ nothing_shown (sessions c.args.plan)
          ∙ sym (ap (λ (e : Forwarding). rows_of (holdings e.posts)) c.in_ok-node.ensures.ends
          ∙ (λ i. rows_of (holdings (c.in_ok-ends.ensures.posts i)))),
      none_kept _ _ c.in_ok-flows.ensures,
      ap length kept ∙ length-replicate n _ ∙ sym (ap (λ (e : Forwarding). length e.posts) c.in_ok-node.ensures.ends),
      subst (λ (ks : List (List ℕ)). AreFew ks) (sym kept) (none_few n),
      subst (λ (ks : List (List ℕ)). AreOfLive c.in_ok-node.node.ends.posts ks) (sym kept) (none_live _ n),
    )
