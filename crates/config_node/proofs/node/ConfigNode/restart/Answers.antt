use Rattle.std.proofs.Common.{List, ℕ, length, ◌∙◌, sym, ap, subst}
use Rattle.std.proofs.lemmas.List.{length-replicate}
use Rattle.node_core.specs.Keeping.{AreFew, AreOfLive}
use Rattle.node_core.proofs.Kept.{none_few, none_live, nothings_long}
use Rattle.config_node.proofs.node.ConfigNode.restart.Goals as goal

pub invariant_of-self : goal.invariant_of-self
invariant_of-self c =
    let n = length c.self.inside.node.ends.posts in
    let kept = c.restart.ensures.none in (
      ap length kept ∙ length-replicate n _ ∙ sym (ap length c.restart.ensures.posts ∙ nothings_long n),
      subst (λ (ks : List (List ℕ)). AreFew ks) (sym kept) (none_few n),
      subst (λ (ks : List (List ℕ)). AreOfLive c.restart.new.self.ends.posts ks) (sym kept) (none_live _ n),
    )
