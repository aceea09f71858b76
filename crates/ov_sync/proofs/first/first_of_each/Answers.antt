use Rattle.ov_sync.proofs.Ascending.{map_of-insert}
use Rattle.ov_sync.proofs.Firsts.{turn}
use Rattle.ov_sync.proofs.first.first_of_each.Goals as goal

pub loop-key-preserved : goal.loop-key-preserved
loop-key-preserved g c =
    let R = g.K.Ord.cmp in
    let h = c.in_ok-insert.ensures in
    turn R c.pop.new.self.items c.loop-key.entries.items c.in-Some.key c.in-Some.value c.loop-key.first.entries c.insert.new.self.entries _
    c.in-Some.ensures.items
    (map_of-insert R g.met.K.Ord.total c.loop-key.first c.insert.new.self c.in-Some.key c.in-Some.value h.entries h.was_ordered h.ordered)
    c.loop-key.invariant

pub loop-key-preserved-in_ok-insert : goal.loop-key-preserved-in_ok-insert
loop-key-preserved-in_ok-insert g c =
    let R = g.K.Ord.cmp in
    let h = c.in_ok-insert.ensures in
    turn R c.pop.new.self.items c.loop-key.entries.items c.in-Some.key c.in-Some.value c.loop-key.first.entries c.insert.new.self.entries _
    c.in-Some.ensures.items
    (map_of-insert R g.met.K.Ord.total c.loop-key.first c.insert.new.self c.in-Some.key c.in-Some.value h.entries h.was_ordered h.ordered)
    c.loop-key.invariant
