use Rattle.std.proofs.Common.{◌≡◌, ◌<◌, length, slice_index_or, sym, ap, ◌∙◌, arith}
use Rattle.node_core.specs.Resting.{end_at}
use Rattle.node_core.specs.Beginning.{phase_of}
use Rattle.node_core.specs.NodeModel.Step.{Post, post}
use Rattle.item_wire.specs.declared.event.ItemState.{ItemState}
use Rattle.agent_tables.specs.declared.hearing.Hearing.{Hearing}
use Rattle.agent_node.specs.Ends.{Ends}
use Rattle.agent_node.proofs.Posts.{post_at, posts_long}
use Rattle.agent_node.proofs.ends.AgentEnds.state.Goals as goal

pub index-requires : goal.index-requires
index-requires c =
    let long = posts_long c.self.inside.hearings.items c.self.inside.sents.items in
    let seen = ap (λ (e : Ends). length e.posts) c.self.view_is in
    omega (arith, long, seen, c.from.ensures, c.requires, c.self.inside.hearings.ok)

pub returns : goal.returns
returns c =
    let hearings = c.self.inside.hearings.items in
    let sents = c.self.inside.sents.items in
    let here = c.index.result.now in
    let long = posts_long hearings sents in
    let seen = ap (λ (e : Ends). length e.posts) c.self.view_is in
    let lt : c.args.session < length hearings = omega (arith, long, seen, c.requires) in
    let is : here ≡ slice_index_or hearings c.args.session here = rw (sym c.from.ensures) c.index.ensures in
    c.end_in.ensures ∙ ap (λ (s : ItemState). end_at (phase_of s))
    (c.state.ensures ∙ ap (λ (h : Hearing). h.session.state) is)
    ∙ sym (ap (λ (p : Post). end_at p.phase) (post_at hearings sents c.args.session here lt))
    ∙ ap (λ (e : Ends). end_at (post e.posts c.args.session).phase) c.self.view_is
