use Rattle.std.proofs.Common.{◌<◌, ℕ, drop, length, slice_set, set, subst, sym}
use Rattle.std.proofs.Common.{ap, ◌∙◌, arith, Some, None}
use Rattle.std.proofs.lemmas.List.{length-set}
use Rattle.node_core.specs.NodeModel.Step.{nothing}
use Rattle.agent_node.specs.Applying.{AreLed, AreListed, HasHeard, HasLed, HasListed, HasTaken, HaveKeptRoutes}
use Rattle.agent_node.specs.Ends.{Ends, posts_of, whom}
use Rattle.agent_node.proofs.Begins.{taken_down, taken_on, whom_at}
use Rattle.agent_node.proofs.Led.{are_led, are_listed, if_some, routes_kept}
use Rattle.agent_node.proofs.Posts.{ends_hear, ends_long, posts_long}
use Rattle.agent_node.proofs.ends.AgentEnds.hear_on.Goals as goal

pub hear_at-requires-clause-from : goal.hear_at-requires-clause-from
hear_at-requires-clause-from c =
    let hs = c.self.inside.hearings.items in
    let ss = c.self.inside.sents.items in
    let h = c.index_mut.result.now in
    let controllers = ap (λ (e : Ends). length e.plan.controllers) c.self.view_is in
    let long = ends_long c.self.inside.plan hs ss c.self.invariant in
    let lt : c.from.result < length hs = omega (arith, long, controllers, c.requires.known, c.from.ensures) in
    (λ i. (whom_at c.self.inside.plan hs ss c.self.invariant c.from.result h lt c.index_mut.ensures.value i).1)

pub invariant_of-self-in-Some : goal.invariant_of-self-in-Some
invariant_of-self-in-Some c =
    ends_hear c.self.inside.plan c.self.inside.hearings.items c.self.inside.sents.items c.from.result
    c.hear_at.new.hearing c.index_mut.result.now c.self.invariant
    (c.in_ok-taken.ensures.whom ∙ ap whom c.index_mut.ensures.value) c.in_ok-taken.ensures.fits

pub close-requires : goal.close-requires
close-requires c =
    let hs = c.self.inside.hearings.items in
    let ss = c.self.inside.sents.items in
    let controllers = ap (λ (e : Ends). length e.plan.controllers) c.self.view_is in
    let long = ends_long c.self.inside.plan hs ss c.self.invariant in
    let new = posts_long (set hs c.from.result c.hear_at.new.hearing) ss in
    let same = length-set hs c.from.result c.hear_at.new.hearing in
    omega (arith, long, controllers, new, same, c.requires.known)

pub returns-in-None-clause-heard : goal.returns-in-None-clause-heard
returns-in-None-clause-heard c =
    let hs = c.self.inside.hearings.items in
    let ss = c.self.inside.sents.items in
    let h = c.index_mut.result.now in
    let h' = c.hear_at.new.hearing in
    let controllers = ap (λ (e : Ends). length e.plan.controllers) c.self.view_is in
    let long = ends_long c.self.inside.plan hs ss c.self.invariant in
    let lt : c.from.result < length hs = omega (arith, long, controllers, c.requires.known, c.from.ensures) in
    let left = drop c.in_ok-taken.field-0.taken c.args.bytes.now in
    let heard = subst (HasHeard h c.args.bytes.now left h') c.in-None.is c.in_ok-taken.ensures.heard in
    let taken = taken_on c.self.inside.plan hs ss c.self.invariant c.from.result h lt c.index_mut.ensures.value
    c.args.bytes.now left h' heard in
    subst (λ (n : ℕ). HasTaken c.args.self.now.plan n c.args.bytes.now left c.args.self.now.posts
    (posts_of (slice_set hs c.from.result h') ss) None) c.from.ensures
    (subst (λ (e : Ends). HasTaken e.plan c.from.result c.args.bytes.now left e.posts
    (posts_of (slice_set hs c.from.result h') ss) None) c.self.view_is taken)

pub returns-in-Some-clause-heard : goal.returns-in-Some-clause-heard
returns-in-Some-clause-heard c =
    let hs = c.self.inside.hearings.items in
    let ss = c.self.inside.sents.items in
    let h = c.index_mut.result.now in
    let h' = c.hear_at.new.hearing in
    let controllers = ap (λ (e : Ends). length e.plan.controllers) c.self.view_is in
    let long = ends_long c.self.inside.plan hs ss c.self.invariant in
    let lt : c.from.result < length hs = omega (arith, long, controllers, c.requires.known, c.from.ensures) in
    let left = drop c.in_ok-taken.field-0.taken c.args.bytes.now in
    let heard = subst (HasHeard h c.args.bytes.now left h') c.in-Some.is c.in_ok-taken.ensures.heard in
    let closed = c.close.ensures.closed
    ∙ ap (λ (n : ℕ). slice_set (posts_of (slice_set hs c.from.result h') ss) n nothing) (sym c.from.ensures) in
    let taken = taken_down c.self.inside.plan hs ss c.self.invariant c.from.result h lt c.index_mut.ensures.value
    c.args.bytes.now left h' c.in-Some.cause c.close.new.self.posts heard closed in
    subst (λ (n : ℕ). HasTaken c.args.self.now.plan n c.args.bytes.now left c.args.self.now.posts c.close.new.self.posts
    (Some c.in-Some.cause)) c.from.ensures
    (subst (λ (e : Ends). HasTaken e.plan c.from.result c.args.bytes.now left e.posts c.close.new.self.posts
    (Some c.in-Some.cause)) c.self.view_is taken)

pub returns-in-None-clause-led : goal.returns-in-None-clause-led
returns-in-None-clause-led c =
    let hs = c.self.inside.hearings.items in
    let ss = c.self.inside.sents.items in
    let h = c.index_mut.result.now in
    let h' = c.hear_at.new.hearing in
    let controllers = ap (λ (e : Ends). length e.plan.controllers) c.self.view_is in
    let long = ends_long c.self.inside.plan hs ss c.self.invariant in
    let lt : c.from.result < length hs = omega (arith, long, controllers, c.requires.known, c.from.ensures) in
    if_some (λ keys. HasLed keys.items h h')
    (λ keys. AreLed keys.items c.args.session c.args.self.now.posts (posts_of (slice_set hs c.from.result h') ss))
    c.in_ok-taken.field-0.routes (λ keys t.
    subst (λ (n : ℕ). AreLed keys.items n c.args.self.now.posts (posts_of (slice_set hs c.from.result h') ss)) c.from.ensures
    (subst (λ (e : Ends). AreLed keys.items c.from.result e.posts (posts_of (slice_set hs c.from.result h') ss)) c.self.view_is
    (are_led c.self.inside.plan hs ss c.self.invariant c.from.result h lt c.index_mut.ensures.value h' keys.items t)))
    c.in_ok-taken.ensures.led

pub returns-in-None-clause-stay : goal.returns-in-None-clause-stay
returns-in-None-clause-stay c = λ on.
    let hs = c.self.inside.hearings.items in
    let ss = c.self.inside.sents.items in
    let h = c.index_mut.result.now in
    let h' = c.hear_at.new.hearing in
    let controllers = ap (λ (e : Ends). length e.plan.controllers) c.self.view_is in
    let long = ends_long c.self.inside.plan hs ss c.self.invariant in
    let lt : c.from.result < length hs = omega (arith, long, controllers, c.requires.known, c.from.ensures) in
    subst (λ (n : ℕ). HaveKeptRoutes n c.args.self.now.posts (posts_of (slice_set hs c.from.result h') ss)) c.from.ensures
    (subst (λ (e : Ends). HaveKeptRoutes c.from.result e.posts (posts_of (slice_set hs c.from.result h') ss)) c.self.view_is
    (routes_kept c.self.inside.plan hs ss c.self.invariant c.from.result h lt c.index_mut.ensures.value h'
    (c.in_ok-taken.ensures.stay on)))

pub returns-in-None-clause-list : goal.returns-in-None-clause-list
returns-in-None-clause-list c =
    let hs = c.self.inside.hearings.items in
    let ss = c.self.inside.sents.items in
    let h = c.index_mut.result.now in
    let h' = c.hear_at.new.hearing in
    let controllers = ap (λ (e : Ends). length e.plan.controllers) c.self.view_is in
    let long = ends_long c.self.inside.plan hs ss c.self.invariant in
    let lt : c.from.result < length hs = omega (arith, long, controllers, c.requires.known, c.from.ensures) in
    if_some (λ n. HasListed n h h')
    (λ n. AreListed n c.args.session c.args.self.now.posts (posts_of (slice_set hs c.from.result h') ss))
    c.in_ok-taken.field-0.list (λ n t.
    subst (λ (i : ℕ). AreListed n i c.args.self.now.posts (posts_of (slice_set hs c.from.result h') ss)) c.from.ensures
    (subst (λ (e : Ends). AreListed n c.from.result e.posts (posts_of (slice_set hs c.from.result h') ss)) c.self.view_is
    (are_listed c.self.inside.plan hs ss c.self.invariant c.from.result h lt c.index_mut.ensures.value h' n t)))
    c.in_ok-taken.ensures.list
