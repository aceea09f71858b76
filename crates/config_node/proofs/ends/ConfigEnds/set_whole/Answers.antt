use Rattle.std.proofs.Common.{◌≡◌, None, length, map, subst, sym, ap, ◌∙◌}
use Rattle.config_check.specs.Checked.{Checked}
use Rattle.config_node.specs.Ends.{AreEnds, Ends, doubted, posts_of}
use Rattle.config_node.proofs.Posts.{doubted_posts, ends_doubted}
use Rattle.node_core.proofs.Lists.{written}
use Rattle.config_node.proofs.ends.ConfigEnds.set_whole.Goals as goal

pub invariant_of-self : goal.invariant_of-self
invariant_of-self c =
    let es = c.self.inside.ends.items in
    let new = c.doubt_all.new.ends in
    let y : Checked = c.args.valid in
    let made = c.in_ok-wants in
    let long : length new ≡ c.self.inside.ends.len =
    c.doubt_all.auto.ends ∙ ap length c.deref_mut.ensures.value ∙ sym c.self.inside.ends.ok.0 in
    let now : new ≡ map doubted es = c.doubt_all.ensures ∙ ap (map doubted) c.deref_mut.ensures.value in
    subst (AreEnds y made.wants.entries None) (sym (written c.self.inside.ends.len new es long ∙ now))
    (ends_doubted c.self.inside.valid y c.self.inside.wants.entries made.wants.entries c.self.inside.changed es c.self.invariant
    (c.requires.same ∙ sym (ap (λ (e : Ends). e.setup.topology.controllers) c.self.view_is))
    made.ensures.wanted made.ensures.fits)

pub returns-clause-posts : goal.returns-clause-posts
returns-clause-posts c =
    let es = c.self.inside.ends.items in
    let new = c.doubt_all.new.ends in
    let long : length new ≡ c.self.inside.ends.len =
    c.doubt_all.auto.ends ∙ ap length c.deref_mut.ensures.value ∙ sym c.self.inside.ends.ok.0 in
    let now : new ≡ map doubted es = c.doubt_all.ensures ∙ ap (map doubted) c.deref_mut.ensures.value in
    ap posts_of (written c.self.inside.ends.len new es long ∙ now) ∙ doubted_posts es
    ∙ ap (λ (e : Ends). e.posts) c.self.view_is
