use Rattle.std.proofs.Common.{◌≡◌, slice_set, ap, ◌∙◌}
use Rattle.node_core.specs.NodeModel.Step.{nothing}
use Rattle.config_node.specs.Ends.{posts_of, whom, whom_at}
use Rattle.config_node.proofs.Posts.{ends_set, nothing_sent, posts_set, shut_at}
use Rattle.config_node.proofs.ends.ConfigEndsEnds.close.Goals as goal

pub invariant_of-self : goal.invariant_of-self
invariant_of-self c =
    let new = c.shut.new.self in
    let same : whom_at new ≡ whom_at c.index_mut.result.now = ap whom c.shut.ensures.session in
    ends_set c.self.inside.valid c.self.inside.wants.entries c.self.inside.changed c.self.inside.ends.items c.from.result new
    c.index_mut.result.now c.self.invariant (same ∙ ap whom_at c.index_mut.ensures.value)
    (nothing_sent c.self.inside.wants.entries c.self.inside.changed new c.shut.ensures.sent c.shut.ensures.told)

pub returns-clause-closed : goal.returns-clause-closed
returns-clause-closed c =
    let es = c.self.inside.ends.items in
    let end = shut_at c.shut.new.self c.index_mut.result.now.session c.shut.ensures.session c.shut.ensures.sent in
    posts_set es c.from.result c.shut.new.self
    ∙ ap (slice_set (posts_of es) c.from.result) end
    ∙ (λ i. slice_set (c.self.view_is i).posts (c.from.ensures i) nothing)
