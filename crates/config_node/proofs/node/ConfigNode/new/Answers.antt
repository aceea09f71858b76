use Rattle.std.proofs.Common.{List, ℕ, length, ◌∙◌, sym, ap, subst}
use Rattle.std.proofs.lemmas.List.{length-replicate}
use Rattle.node_core.specs.Keeping.{AreFew, AreOfLive}
use Rattle.node_core.proofs.Kept.{none_few, none_live}
use Rattle.config_node.specs.Ends.{Ends}
use Rattle.config_node.proofs.node.ConfigNode.new.Goals as goal

pub invariant_of-result : goal.invariant_of-result
invariant_of-result c =
    let n = length c.in_ok-ends.ends.posts in
    let kept = c.in_ok-node.ensures.kept in (
      ap length kept ∙ length-replicate n _ ∙ sym (ap (λ (e : Ends). length e.posts) c.in_ok-node.ensures.ends),
      subst (λ (ks : List (List ℕ)). AreFew ks) (sym kept) (none_few n),
      subst (λ (ks : List (List ℕ)). AreOfLive c.in_ok-node.node.ends.posts ks) (sym kept) (none_live _ n),
    )
