use Rattle.std.proofs.Common.{◌≡◌, ◌++◌, refl, rules, sym, ap, ◌∙◌, subst, drop, List, ℕ}
use Rattle.ov_link.specs.declared.step.Input.TheVariants as input
use Rattle.node_model.specs.Step.{post}
use Rattle.node_core.specs.Keeping.{left_in}
use Rattle.node_core.proofs.Kept.{begins_also}
use Rattle.node_core.proofs.advancing.hear_behind.Goals as goal

pub returns-in-Ok-clause-step : goal.returns-in-Ok-clause-step
returns-in-Ok-clause-step g c = λ _.
    let session = c.args.session in
    let before = c.args.ends.now in
    let here = post (g.E.Ends.posts before) session in
    let whole = input.Bytes session c.octets.result in
    let taken = c.in-Ok.field-0.taken in
    let left = c.take.ensures ∙ ap (drop taken) (sym c.octets.ensures) in
    let pushed : c.push.new.self ≡ c.args.inbox.now ++ c.args.bytes.now = search rules in
    begins_also g.L.Link.accepted g.L.Link.breaks g.L.Link.faults _ _ _ _ _ _ _ _ _
    (λ given cause b.
    subst (λ (o : List ℕ). g.E.Ends.begins before session here c.args.inbox.now (input.Bytes session c.args.bytes) given
    cause o) (sym left)
    (g.met.E.Ends.begins_behind before session here c.args.inbox.now (input.Bytes session c.args.bytes) whole given cause
    (left_in whole taken) (refl, c.octets.ensures ∙ pushed) b))
    c.in-Ok.ensures.step
