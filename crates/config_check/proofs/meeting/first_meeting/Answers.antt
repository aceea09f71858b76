use Rattle.std.proofs.Common.{◌≡◌, ◌+◌, None, take, sym, ap, ◌∙◌}
use Rattle.std.specs.BTreeMap.{get}
use Rattle.std.specs.List.{find}
use Rattle.std.specs.Option.{option_copied}
use Rattle.config_check.proofs.Keyed.{met_is, put_new}
use Rattle.config_check.proofs.Lists.{taken_more, met_here, not_met_here}
use Rattle.config_check.proofs.meeting.first_meeting.Goals as goal

pub loop-item-preserved : goal.loop-item-preserved
loop-item-preserved g c =
    let o = g.met.T.Key.Ord.total in
    let key = g.T.Meets.key_of in
    let meets = g.T.Meets.meets in
    let xs = c.args.items.now in
    let i = c.loop-item.item-index in
    let x = c.item-item.result in
    let m = c.loop-item.before in
    let inv = c.loop-item.invariant in
    let h = c.in_ok-earlier.ensures in
    let none : find (λ b. meets b x) (take i xs) ≡ None =
    met_is o key meets g.met.T.Meets.by_key (take i xs) m x c.key.result c.in_ok-earlier.field-0 inv.kept c.key.ensures h.old ∙ ap option_copied c.in_default.is in
    record {
      kept = λ q.
          put_new o key (take i xs) (take (i + 1) xs) m _ c.key.result q (get g.T.Key.Ord.cmp c.insert.new.self q)
          (taken_more xs i x c.loop-item-test.true c.item-item.is) inv.kept c.key.ensures (ap option_copied (sym h.old ∙ c.in_default.is)) (h.updates.0 q);
      none = not_met_here meets xs i x _ c.loop-item-test.true c.item-item.is none inv.none;
    }

pub returns-in-Some : goal.returns-in-Some
returns-in-Some g c =
    let meets = g.T.Meets.meets in
    let xs = c.args.items.now in
    let i = c.loop-item.item-index in
    let x = c.item-item.result in
    let inv = c.loop-item.invariant in
    let h = c.in_ok-earlier.ensures in
    met_here meets xs i x c.in-Some.earlier.now _ c.loop-item-test.true c.item-item.is
    (met_is g.met.T.Key.Ord.total g.T.Meets.key_of meets g.met.T.Meets.by_key (take i xs) c.loop-item.before x c.key.result c.in_ok-earlier.field-0 inv.kept c.key.ensures h.old
    ∙ ap option_copied c.in-Some.is)
    inv.none
