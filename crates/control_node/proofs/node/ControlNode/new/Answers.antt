use Rattle.std.proofs.Common.{◌∙◌, ℕ, List, sym, ap, subst, length, []}
use Rattle.std.proofs.lemmas.List.{length-replicate}
use Rattle.node_core.specs.Keeping.{AreFew, AreOfLive, nothing_kept}
use Rattle.control_node.specs.Agents.{AreRetired, with_retired}
use Rattle.control_node.specs.Core.{fresh, sessions}
use Rattle.control_node.specs.Ends.{Ends}
use Rattle.node_core.proofs.Kept.{none_few, none_live, nothings_long}
use Rattle.control_node.proofs.node.ControlNode.new.Goals as goal

pub invariant_of-result : goal.invariant_of-result
invariant_of-result c =
    let n = length c.in_ok-ends.ends.posts in (
      ap length c.in_ok-node.ensures.kept ∙ length-replicate n [] ∙ sym (ap (λ (e : Ends). length e.posts) c.in_ok-node.ensures.ends),
      subst AreFew (sym c.in_ok-node.ensures.kept) (none_few n),
      subst (AreOfLive c.in_ok-node.node.ends.posts) (sym c.in_ok-node.ensures.kept) (none_live c.in_ok-node.node.ends.posts n),
      subst (λ (retired : List ℕ). AreRetired (with_retired c.in_ok-node.node.ends.plan retired)) (sym c.new-3.ensures.items) tt,
    )

pub returns : goal.returns
returns c =
    let ends = c.in_ok-node.ensures.ends ∙ c.in_ok-ends.ensures in
    let many = ap (λ (e : Ends). length e.posts) c.in_ok-ends.ensures ∙ nothings_long (sessions c.args.plan) in
    let kept = c.in_ok-node.ensures.kept ∙ ap nothing_kept many in
    (λ i. record {
      plan = with_retired (ends i).plan (c.new-3.ensures.items i);
      posts = (ends i).posts;
      kept = kept i;
      failed = c.in_ok-node.ensures.works i;
    })
    ∙ (λ i. record (fresh c.args.plan) { plan = with_retired c.args.plan (sym c.requires.retired i) })
