use Rattle.std.proofs.Common.{◌≡◌, ◌<◌, List, ℕ, ap, ◌∙◌, arith, length, subst, sym, set, ◌+◌}
use Rattle.std.specs.Prelude.{[], if◌then◌else◌}
use Rattle.std.proofs.lemmas.List.{get_or_read}
use Rattle.node_core.specs.Keeping.{kept_at}
use Rattle.node_core.proofs.Kept.{AreSweptBelow, none_swept, swept_all, swept_more}
use Rattle.node_core.proofs.keeping.sweep.Goals as goal

pub loop-session-init : goal.loop-session-init
loop-session-init g c = none_swept (g.E.Ends.posts c.args.ends.now) c.args.inboxes.now.items

pub loop-session-preserved : goal.loop-session-preserved
loop-session-preserved g c =
    let l = c.loop-session in
    let posts = g.E.Ends.posts c.args.ends.now in
    let now = l.inboxes.items in
    let octets = c.sweep_one.new.inbox in
    let lt : l.session < length now =
    omega (arith, c.loop-session-test.true, c.sessions-session-end.ensures, l.invariant.long, c.requires) in
    let read : c.index_mut.result.now ≡ kept_at now l.session =
    get_or_read now c.from.result c.index_mut.result.now (subst (λ (n : ℕ). n < length now) (sym c.from.ensures) lt)
    c.index_mut.ensures.value []
    ∙ ap (kept_at now) c.from.ensures in
    subst (λ (n : ℕ). AreSweptBelow posts c.args.inboxes.now.items (set now n octets) (l.session + 1)) (sym c.from.ensures)
    (swept_more posts c.args.inboxes.now.items now l.session c.is_live.result octets lt c.is_live.ensures
    (c.sweep_one.ensures ∙ ap (λ (o : List ℕ). if c.is_live.result then o else []) read) l.invariant)

pub returns : goal.returns
returns g c =
    swept_all (g.E.Ends.posts c.args.ends.now) c.args.inboxes.now.items c.loop-session.inboxes.items c.loop-session.session
    (omega (arith, c.loop-session-test.false, c.sessions-session-end.ensures, c.requires)) c.loop-session.invariant
