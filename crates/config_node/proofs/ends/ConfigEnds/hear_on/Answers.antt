use Rattle.std.proofs.Common.{◌<◌, ℕ, drop, length, slice_set, subst, sym, ap, ◌∙◌, arith, Some, None}
use Rattle.node_core.specs.NodeModel.Step.{nothing}
use Rattle.config_node.specs.Ends.{Ends, posts_of, whom_at}
use Rattle.config_node.specs.Taking.{HasTaken}
use Rattle.config_node.specs.declared.ends.FeedEnd.{FeedEnd}
use Rattle.config_node.proofs.Begins.{taken_down, taken_on, whom_is}
use Rattle.config_node.proofs.Posts.{ends_long, ends_set, sent_there}
use Rattle.config_node.proofs.ends.ConfigEnds.hear_on.Goals as goal

pub hear_at-requires : goal.hear_at-requires
hear_at-requires c =
    let es = c.self.inside.ends.items in
    let controllers = ap (λ (s : Ends). length s.setup.topology.controllers) c.self.view_is in
    let long = ends_long c.self.inside.valid c.self.inside.wants.entries c.self.inside.changed es c.self.invariant in
    let lt : c.from.result < length es = omega (arith, long, controllers, c.requires.known, c.from.ensures) in
    record {
      from = λ i. (whom_is c.self.inside.valid c.self.inside.wants.entries c.self.inside.changed es c.self.invariant c.from.result
          c.index_mut-end.result.now lt c.index_mut-end.ensures.value i).1;
    }

pub invariant_of-self : goal.invariant_of-self
invariant_of-self c =
    let es = c.self.inside.ends.items in
    let e = c.index_mut-end.result.now in
    let controllers = ap (λ (s : Ends). length s.setup.topology.controllers) c.self.view_is in
    let long = ends_long c.self.inside.valid c.self.inside.wants.entries c.self.inside.changed es c.self.invariant in
    let lt : c.from.result < length es = omega (arith, long, controllers, c.requires.known, c.from.ensures) in
    ends_set c.self.inside.valid c.self.inside.wants.entries c.self.inside.changed es c.from.result _ e c.self.invariant
    (c.hear_at.ensures.whom ∙ ap whom_at c.index_mut-end.ensures.value)
    (sent_there c.self.inside.valid c.self.inside.wants.entries c.self.inside.changed es c.self.invariant c.from.result e lt
    c.index_mut-end.ensures.value)

pub invariant_of-self-in-None : goal.invariant_of-self-in-None
invariant_of-self-in-None c =
    let es = c.self.inside.ends.items in
    let e = c.index_mut-end.result.now in
    let controllers = ap (λ (s : Ends). length s.setup.topology.controllers) c.self.view_is in
    let long = ends_long c.self.inside.valid c.self.inside.wants.entries c.self.inside.changed es c.self.invariant in
    let lt : c.from.result < length es = omega (arith, long, controllers, c.requires.known, c.from.ensures) in
    ends_set c.self.inside.valid c.self.inside.wants.entries c.self.inside.changed es c.from.result _ e c.self.invariant
    (c.hear_at.ensures.whom ∙ ap whom_at c.index_mut-end.ensures.value)
    (sent_there c.self.inside.valid c.self.inside.wants.entries c.self.inside.changed es c.self.invariant c.from.result e lt
    c.index_mut-end.ensures.value)

pub invariant_of-self-in-Some : goal.invariant_of-self-in-Some
invariant_of-self-in-Some c =
    let es = c.self.inside.ends.items in
    let e = c.index_mut-end.result.now in
    let controllers = ap (λ (s : Ends). length s.setup.topology.controllers) c.self.view_is in
    let long = ends_long c.self.inside.valid c.self.inside.wants.entries c.self.inside.changed es c.self.invariant in
    let lt : c.from.result < length es = omega (arith, long, controllers, c.requires.known, c.from.ensures) in
    ends_set c.self.inside.valid c.self.inside.wants.entries c.self.inside.changed es c.from.result _ e c.self.invariant
    (c.hear_at.ensures.whom ∙ ap whom_at c.index_mut-end.ensures.value)
    (sent_there c.self.inside.valid c.self.inside.wants.entries c.self.inside.changed es c.self.invariant c.from.result e lt
    c.index_mut-end.ensures.value)

pub returns-in-None-clause-heard : goal.returns-in-None-clause-heard
returns-in-None-clause-heard c =
    let es = c.self.inside.ends.items in
    let e = c.index_mut-end.result.now in
    let e' : FeedEnd = record { session = c.hear_at.new.session; sent = e.sent; told = e.told } in
    let controllers = ap (λ (s : Ends). length s.setup.topology.controllers) c.self.view_is in
    let long = ends_long c.self.inside.valid c.self.inside.wants.entries c.self.inside.changed es c.self.invariant in
    let lt : c.from.result < length es = omega (arith, long, controllers, c.requires.known, c.from.ensures) in
    let left = drop c.in_ok-taken.field-0.taken c.args.bytes.now in
    let heard = rw c.in-None.is at c.in_ok-taken.ensures.heard in
    let taken = taken_on c.self.inside.valid c.self.inside.wants.entries c.self.inside.changed es c.self.invariant c.from.result e lt
    c.index_mut-end.ensures.value c.args.bytes.now left c.hear_at.new.session heard in
    subst (λ (n : ℕ). HasTaken c.args.self.now.setup n c.args.bytes.now left c.args.self.now.posts
    (posts_of (slice_set es c.from.result e')) None) c.from.ensures
    (subst (λ (s : Ends). HasTaken s.setup c.from.result c.args.bytes.now left s.posts
    (posts_of (slice_set es c.from.result e')) None) c.self.view_is taken)

pub returns-in-Some-clause-heard : goal.returns-in-Some-clause-heard
returns-in-Some-clause-heard c =
    let es = c.self.inside.ends.items in
    let e = c.index_mut-end.result.now in
    let e' : FeedEnd = record { session = c.hear_at.new.session; sent = e.sent; told = e.told } in
    let controllers = ap (λ (s : Ends). length s.setup.topology.controllers) c.self.view_is in
    let long = ends_long c.self.inside.valid c.self.inside.wants.entries c.self.inside.changed es c.self.invariant in
    let lt : c.from.result < length es = omega (arith, long, controllers, c.requires.known, c.from.ensures) in
    let left = drop c.in_ok-taken.field-0.taken c.args.bytes.now in
    let heard = rw c.in-Some.is at c.in_ok-taken.ensures.heard in
    let closed = c.close.ensures.closed
    ∙ ap (λ (n : ℕ). slice_set (posts_of (slice_set es c.from.result e')) n nothing) (sym c.from.ensures) in
    let taken = taken_down c.self.inside.valid c.self.inside.wants.entries c.self.inside.changed es c.self.invariant c.from.result e lt
    c.index_mut-end.ensures.value c.args.bytes.now left c.hear_at.new.session c.in-Some.cause c.close.new.self.posts heard
    closed in
    subst (λ (n : ℕ). HasTaken c.args.self.now.setup n c.args.bytes.now left c.args.self.now.posts c.close.new.self.posts
    (Some c.in-Some.cause)) c.from.ensures
    (subst (λ (s : Ends). HasTaken s.setup c.from.result c.args.bytes.now left s.posts c.close.new.self.posts
    (Some c.in-Some.cause)) c.self.view_is taken)
