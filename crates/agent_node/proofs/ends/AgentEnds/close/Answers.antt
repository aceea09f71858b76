use Rattle.std.proofs.Common.{◌≡◌, ◌<◌, length, slice_set, ap, ◌∙◌, arith}
use Rattle.item_wire.specs.Happenings.{SessionFields}
use Rattle.node_core.specs.NodeModel.Step.{nothing}
use Rattle.agent_node.specs.Ends.{Ends, posts_of, whom}
use Rattle.agent_node.proofs.Posts.{ends_long, ends_set, nothing_held, nothing_sent, posts_long, posts_set, shut_at}
use Rattle.agent_node.proofs.ends.AgentEnds.close.Goals as goal

pub index_mut-requires : goal.index_mut-requires
index_mut-requires c =
    let long = posts_long c.self.inside.hearings.items c.self.inside.sents.items in
    let seen = ap (λ (e : Ends). length e.posts) c.self.view_is in
    omega (arith, long, seen, c.from-index.ensures, c.requires, c.self.inside.hearings.ok)

pub index_mut-requires-2 : goal.index_mut-requires-2
index_mut-requires-2 c =
    let long = posts_long c.self.inside.hearings.items c.self.inside.sents.items in
    let seen = ap (λ (e : Ends). length e.posts) c.self.view_is in
    let each = ends_long c.self.inside.plan c.self.inside.hearings.items c.self.inside.sents.items c.self.invariant in
    omega (arith, long, seen, each, c.self.invariant.many, c.from-index.ensures, c.requires, c.self.inside.sents.ok)

pub invariant_of-self : goal.invariant_of-self
invariant_of-self c =
    let new = c.shut.new.hearing in
    let same : whom new ≡ whom c.index_mut.result.now =
    ap (λ (s : SessionFields). (s.peer, s.from)) c.shut.ensures.session in
    ends_set c.self.inside.plan c.self.inside.hearings.items c.self.inside.sents.items c.from-index.result new
    c.index_mut.result.now c.shut.new.sent c.self.invariant (same ∙ ap whom c.index_mut.ensures.value)
    (nothing_held new c.shut.ensures.held) (nothing_sent c.shut.new.sent c.shut.ensures.sent)

pub returns-clause-closed : goal.returns-clause-closed
returns-clause-closed c =
    let hearings = c.self.inside.hearings.items in
    let sents = c.self.inside.sents.items in
    let long = posts_long hearings sents in
    let seen = ap (λ (e : Ends). length e.posts) c.self.view_is in
    let each = ends_long c.self.inside.plan hearings sents c.self.invariant in
    let lt : c.from-index.result < length sents =
    omega (arith, long, seen, each, c.self.invariant.many, c.from-index.ensures, c.requires) in
    let end = shut_at c.shut.new.hearing c.shut.new.sent c.index_mut.result.now.session c.shut.ensures.session
    c.shut.ensures.held c.shut.ensures.sent in
    posts_set hearings sents c.from-index.result c.shut.new.hearing c.shut.new.sent lt
    ∙ ap (slice_set (posts_of hearings sents) c.from-index.result) end
    ∙ (λ i. slice_set (c.self.view_is i).posts (c.from-index.ensures i) nothing)
