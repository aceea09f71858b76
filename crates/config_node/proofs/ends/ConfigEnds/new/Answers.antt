use Rattle.std.proofs.Common.{◌≡◌, None, map, ap, ◌∙◌, sym, subst}
use Rattle.config_types.specs.declared.topology.Topology.{Topology}
use Rattle.config_check.specs.Checked.{Checked}
use Rattle.config_node.specs.Ends.{AreEnds, new_end, posts_of}
use Rattle.config_node.proofs.Posts.{fresh_ends, fresh_posts}
use Rattle.config_node.proofs.Wanted.{few, some}
use Rattle.config_node.proofs.ends.ConfigEnds.new.Goals as goal

pub invariant_of-result : goal.invariant_of-result
invariant_of-result c =
    let x : Checked = c.args.valid in
    let e = c.topology.ensures in
    let made : c.in_ok-ends.ends.items ≡ map new_end x.topology.controllers =
    c.in_ok-ends.ensures
    ∙ ap (map new_end) (c.as_slice.ensures ∙ ap (λ (t : Topology). t.controllers) e.part) in
    subst (AreEnds x c.in_ok-wants.wants.entries None) (sym made)
    (fresh_ends x c.in_ok-wants.wants.entries (some x.topology e.topology_form) (few x.topology x.config e.valid)
    c.in_ok-wants.ensures.wanted c.in_ok-wants.ensures.fits)

pub returns-clause-posts : goal.returns-clause-posts
returns-clause-posts c =
    ap posts_of (c.in_ok-ends.ensures
    ∙ ap (map new_end) (c.as_slice.ensures ∙ ap (λ (t : Topology). t.controllers) c.topology.ensures.part))
    ∙ fresh_posts c.args.valid.topology.controllers
