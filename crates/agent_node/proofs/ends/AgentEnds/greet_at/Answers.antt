use Rattle.std.proofs.Common.{◌≡◌, ◌<◌, length, slice_index_or, slice_set, subst, sym, ap, ◌∙◌, arith}
use Rattle.item_wire.specs.Happenings.{SessionFields}
use Rattle.node_core.specs.NodeModel.Step.{Opened, Post, post}
use Rattle.agent_tables.specs.declared.hearing.Hearing.{Hearing}
use Rattle.agent_node.specs.Ends.{Ends, HeldFits, whom}
use Rattle.node_core.proofs.States.{idle_state}
use Rattle.agent_node.proofs.Begins.{greeted, here}
use Rattle.agent_node.proofs.Posts.{ends_hear, ends_long}
use Rattle.agent_node.proofs.ends.AgentEnds.greet_at.Goals as goal

pub greet-requires : goal.greet-requires
greet-requires c =
    let hs = c.self.inside.hearings.items in
    let ss = c.self.inside.sents.items in
    let h = c.index_mut-hearing.result.now in
    let controllers = ap (λ (e : Ends). length e.plan.controllers) c.self.view_is in
    let long = ends_long c.self.inside.plan hs ss c.self.invariant in
    let lt : c.args.session < length hs = omega (arith, long, controllers, c.requires.known) in
    let is : h ≡ slice_index_or hs c.args.session h = rw (sym c.from.ensures) c.index_mut-hearing.ensures.value in
    let seen = ap (λ (e : Ends). (post e.posts c.args.session).phase) c.self.view_is in
    let idle = ap (λ (p : Post). p.phase) (here c.self.inside.plan hs ss c.self.invariant c.args.session h lt is)
    ∙ seen ∙ c.requires.idle in
    record { idle = idle_state h.session.state idle }

pub invariant_of-self : goal.invariant_of-self
invariant_of-self c =
    let hs = c.self.inside.hearings.items in
    let h = c.index_mut-hearing.result.now in
    let controllers = ap (λ (e : Ends). length e.plan.controllers) c.self.view_is in
    let long = ends_long c.self.inside.plan hs c.self.inside.sents.items c.self.invariant in
    let lt : c.from.result < length hs = omega (arith, long, controllers, c.requires.known, c.from.ensures) in
    let h' : Hearing = record { session = c.greet.new.session; held = h.held } in
    let same : whom h' ≡ whom h = ap (λ (s : SessionFields). (s.peer, s.from)) c.greet.ensures.opened in
    let fits : HeldFits h =
    subst HeldFits (sym c.index_mut-hearing.ensures.value) (c.self.invariant.held c.from.result h lt) in
    ends_hear c.self.inside.plan hs c.self.inside.sents.items c.from.result h' h c.self.invariant
    (same ∙ ap whom c.index_mut-hearing.ensures.value) fits

pub returns-clause-opened : goal.returns-clause-opened
returns-clause-opened c =
    let hs = c.self.inside.hearings.items in
    let ss = c.self.inside.sents.items in
    let h = c.index_mut-hearing.result.now in
    let controllers = ap (λ (e : Ends). length e.plan.controllers) c.self.view_is in
    let long = ends_long c.self.inside.plan hs ss c.self.invariant in
    let lt : c.from.result < length hs = omega (arith, long, controllers, c.requires.known, c.from.ensures) in
    greeted c.self.inside.plan hs ss c.self.invariant c.from.result h lt c.index_mut-hearing.ensures.value
    c.greet.new.session c.greet.ensures.opened
    ∙ (λ i. slice_set (c.self.view_is i).posts (c.from.ensures i)
    (record (post (c.self.view_is i).posts (c.from.ensures i)) { phase = Opened }))
