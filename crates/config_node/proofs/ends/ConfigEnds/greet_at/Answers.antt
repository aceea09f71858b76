use Rattle.std.proofs.Common.{◌≡◌, ◌<◌, length, slice_set, ap, ◌∙◌, arith}
use Rattle.node_core.specs.NodeModel.Step.{Opened, post}
use Rattle.config_node.specs.Ends.{Ends, whom, whom_at}
use Rattle.config_node.specs.declared.ends.FeedEnd.{FeedEnd}
use Rattle.config_node.proofs.Begins.{greeted}
use Rattle.config_node.proofs.Posts.{ends_long, ends_set, sent_there}
use Rattle.config_node.proofs.ends.ConfigEnds.greet_at.Goals as goal

pub invariant_of-self : goal.invariant_of-self
invariant_of-self c =
    let es = c.self.inside.ends.items in
    let e = c.index_mut-end.result.now in
    let controllers = ap (λ (s : Ends). length s.setup.topology.controllers) c.self.view_is in
    let long = ends_long c.self.inside.valid c.self.inside.wants.entries c.self.inside.changed es c.self.invariant in
    let lt : c.from.result < length es = omega (arith, long, controllers, c.requires.known, c.from.ensures) in
    let e' : FeedEnd = record { session = c.greet.new.session; sent = e.sent; told = e.told } in
    let same : whom_at e' ≡ whom_at e = ap whom c.greet.ensures.opened in
    ends_set c.self.inside.valid c.self.inside.wants.entries c.self.inside.changed es c.from.result e' e c.self.invariant
    (same ∙ ap whom_at c.index_mut-end.ensures.value)
    (sent_there c.self.inside.valid c.self.inside.wants.entries c.self.inside.changed es c.self.invariant c.from.result e lt
    c.index_mut-end.ensures.value)

pub returns-clause-opened : goal.returns-clause-opened
returns-clause-opened c =
    let es = c.self.inside.ends.items in
    let e = c.index_mut-end.result.now in
    let controllers = ap (λ (s : Ends). length s.setup.topology.controllers) c.self.view_is in
    let long = ends_long c.self.inside.valid c.self.inside.wants.entries c.self.inside.changed es c.self.invariant in
    let lt : c.from.result < length es = omega (arith, long, controllers, c.requires.known, c.from.ensures) in
    greeted c.self.inside.valid c.self.inside.wants.entries c.self.inside.changed es c.self.invariant c.from.result e lt
    c.index_mut-end.ensures.value c.greet.new.session c.greet.ensures.opened
    ∙ (λ i. slice_set (c.self.view_is i).posts (c.from.ensures i)
    (record (post (c.self.view_is i).posts (c.from.ensures i)) { phase = Opened }))
