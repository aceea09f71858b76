use Rattle.ov_sync.proofs.Ascending.{ascends}
use Rattle.ov_sync.proofs.Walking.{walk, difference-walk}
use Rattle.ov_sync.proofs.Turns.{goes_on, ended, old_alone, new_alone, old_first, new_first, both_first}
use Rattle.ov_sync.proofs.sending.changes.Goals as goal

pub returns-in-None-None : goal.returns-in-None-None
returns-in-None-None g c =
    let R = g.K.Ord.cmp in
    let m = c.args.sent.now in
    let n = c.args.desired.now in
    ended R g.V.PartialEq.eq c.merge.old c.merge.new c.merge.olds c.merge.news c.merge.deltas.items (walk R g.V.PartialEq.eq m.entries n.entries) _
    c.in-None-None.is-0 c.in-None-None.is-1 c.merge.invariant
    (difference-walk R g.V.PartialEq.eq g.met.K.Ord.total m.entries n.entries (ascends R m.entries c.iter-olds.ensures.ordered) (ascends R n.entries c.iter-news.ensures.ordered))

pub merge-preserved-in-None-Some : goal.merge-preserved-in-None-Some
merge-preserved-in-None-Some g c =
    goes_on g.K.Ord.cmp g.V.PartialEq.eq c.merge.deltas.items _ c.push_put.new.deltas.items _ _ _ _ _ c.in_ok-push_put-in-None-Some.ensures
    (new_alone g.K.Ord.cmp g.V.PartialEq.eq c.merge.old c.merge.new c.merge.olds c.merge.news (c.in-None-Some.key, c.in-None-Some.value)
    c.next-new-in-None-Some.result c.next-new-in-None-Some.new.self c.in-None-Some.is-0 c.in-None-Some.is-1 c.next-new-in-None-Some.ensures.steps)
    c.merge.invariant

pub merge-preserved-in-Some-None : goal.merge-preserved-in-Some-None
merge-preserved-in-Some-None g c =
    goes_on g.K.Ord.cmp g.V.PartialEq.eq c.merge.deltas.items _ c.push_drop.new.deltas.items _ _ _ _ _ c.in_ok-push_drop-in-Some-None.ensures
    (old_alone g.K.Ord.cmp g.V.PartialEq.eq c.merge.old c.merge.new c.merge.olds c.merge.news (c.in-Some-None.key, c.in-Some-None.field-0-1-0)
    c.next-old-in-Some-None.result c.next-old-in-Some-None.new.self c.in-Some-None.is-0 c.in-Some-None.is-1 c.next-old-in-Some-None.ensures.steps)
    c.merge.invariant

pub merge-preserved-in-Less : goal.merge-preserved-in-Less
merge-preserved-in-Less g c =
    goes_on g.K.Ord.cmp g.V.PartialEq.eq c.merge.deltas.items _ c.push_drop-in-Less.new.deltas.items _ _ _ _ _ c.in_ok-push_drop-in-Less.ensures
    (old_first g.K.Ord.cmp g.V.PartialEq.eq c.merge.old c.merge.new c.merge.olds c.merge.news
    (c.in-Some-Some.old_key, c.in-Some-Some.old_value) (c.in-Some-Some.key, c.in-Some-Some.value)
    c.next-old-in-Less.result c.next-old-in-Less.new.self c.in-Some-Some.is-0 c.in-Some-Some.is-1 c.next-old-in-Less.ensures.steps c.in-Less.ensures)
    c.merge.invariant

pub merge-preserved-in-Greater : goal.merge-preserved-in-Greater
merge-preserved-in-Greater g c =
    goes_on g.K.Ord.cmp g.V.PartialEq.eq c.merge.deltas.items _ c.push_put-in-Greater.new.deltas.items _ _ _ _ _ c.in_ok-push_put-in-Greater.ensures
    (new_first g.K.Ord.cmp g.V.PartialEq.eq c.merge.old c.merge.new c.merge.olds c.merge.news
    (c.in-Some-Some.old_key, c.in-Some-Some.old_value) (c.in-Some-Some.key, c.in-Some-Some.value)
    c.next-new-in-Greater.result c.next-new-in-Greater.new.self c.in-Some-Some.is-0 c.in-Some-Some.is-1 c.next-new-in-Greater.ensures.steps c.in-Greater.ensures)
    c.merge.invariant

pub merge-preserved : goal.merge-preserved
merge-preserved g c =
    goes_on g.K.Ord.cmp g.V.PartialEq.eq c.merge.deltas.items _ c.push_change.new.deltas.items _ _ _ _ _ c.in_ok-push_change-in-Equal.ensures
    (both_first g.K.Ord.cmp g.V.PartialEq.eq c.merge.old c.merge.new c.merge.olds c.merge.news
    (c.in-Some-Some.old_key, c.in-Some-Some.old_value) (c.in-Some-Some.key, c.in-Some-Some.value)
    c.next-old-in-Equal.result c.next-old-in-Equal.new.self c.next-new-in-Equal.result c.next-new-in-Equal.new.self
    c.in-Some-Some.is-0 c.in-Some-Some.is-1 c.next-old-in-Equal.ensures.steps c.next-new-in-Equal.ensures.steps c.in-Equal.ensures)
    c.merge.invariant
