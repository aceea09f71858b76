use Rattle.std.proofs.Common.{◌+◌, take, sym, ◌∙◌}
use Rattle.std.specs.BTreeMap.{get}
use Rattle.config_check.proofs.Keyed.{copied_none, put_new, stays_first}
use Rattle.config_check.proofs.Lists.{taken_more}
use Rattle.config_check.proofs.meeting.first_of_each_key.Goals as goal

pub loop-item-preserved-then-contains_key : goal.loop-item-preserved-then-contains_key
loop-item-preserved-then-contains_key g c = λ q.
    let xs = c.args.items.now in
    let i = c.loop-item.item-index in
    let x = c.item-item.result in
    stays_first g.met.T.Key.Ord.total g.T.Meets.key_of (take i xs) (take (i + 1) xs) c.loop-item.first x c.key-key.result q
    (taken_more xs i x c.loop-item-test.true c.item-item.is) c.loop-item.invariant c.key-key.ensures
    (sym c.contains_key.ensures ∙ c.if-contains_key.true)

pub loop-item-preserved : goal.loop-item-preserved
loop-item-preserved g c = λ q.
    let R = g.T.Key.Ord.cmp in
    let xs = c.args.items.now in
    let i = c.loop-item.item-index in
    let x = c.item-item.result in
    let m = c.loop-item.first in
    put_new g.met.T.Key.Ord.total g.T.Meets.key_of (take i xs) (take (i + 1) xs) m _ c.key-key.result q (get R c.insert.new.self q)
    (taken_more xs i x c.loop-item-test.true c.item-item.is) c.loop-item.invariant c.key-key.ensures
    (copied_none (get R m c.key-key.result) (sym c.contains_key.ensures ∙ c.if-contains_key.false)) (c.in_ok-insert.ensures.updates.0 q)
