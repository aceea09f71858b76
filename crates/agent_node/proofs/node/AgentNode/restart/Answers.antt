use Rattle.std.proofs.Common.{◌∙◌, ℕ, sym, ap, length, subst}
use Rattle.std.proofs.lemmas.List.{length-replicate}
use Rattle.std.specs.Prelude.{List}
use Rattle.node_core.specs.Keeping.{AreFew, AreOfLive}
use Rattle.node_core.proofs.Kept.{none_few, none_live, nothings_long}
use Rattle.node_core.specs.NodeModel.Agent.{rows as rows_of}
use Rattle.node_core.specs.NodeModel.Step.{Post}
use Rattle.flow_acl.proofs.Keeping.{none_kept}
use Rattle.agent_node.specs.Core.{holdings}
use Rattle.agent_node.proofs.Posts.{nothing_shown}
use Rattle.agent_node.proofs.node.AgentNode.restart.Goals as goal

pub invariant_of-self : goal.invariant_of-self
invariant_of-self c =
    let n = length c.self.inside.node.ends.posts in
    let closed = c.forget.ensures.posts ∙ c.restart.ensures.posts in
    let kept = c.restart.ensures.none in (
      λ _. c.forget.ensures.rows ∙ nothing_shown n ∙ sym (ap (λ (ps : List Post). rows_of (holdings ps)) closed),
      none_kept _ _ c.clear.ensures,
      ap length kept ∙ length-replicate n _ ∙ sym (ap length closed ∙ nothings_long n),
      subst (λ (ks : List (List ℕ)). AreFew ks) (sym kept) (none_few n),
      subst (λ (ks : List (List ℕ)). AreOfLive c.forget.new.self.posts ks) (sym kept) (none_live _ n),
    )
