use Rattle.std.proofs.Common.{ap, ◌∙◌, length, false, [], set, arith}
use Rattle.running_nodes.specs.Halves.{Outer}
use Rattle.running_nodes.proofs.edges.Edge.empty.Goals as goal

pub drop_breaks_at-requires : goal.drop_breaks_at-requires
drop_breaks_at-requires c = (let same = ap (λ (o : Outer). length o.others) c.clear.ensures in omega (arith, same, c.requires))

pub set_notice-requires : goal.set_notice-requires
set_notice-requires c =
    (let first = ap (λ (o : Outer). length o.others) c.clear.ensures in
    let then = ap (λ (o : Outer). length o.others) c.drop_breaks_at.ensures in omega (arith, first, then, c.requires))

pub returns : goal.returns
returns c =
    let without_breaks = λ (o : Outer). let p : Outer = record o { breaks = set o.breaks c.args.session [] } in p in
    let without_notice = λ (o : Outer). let p : Outer = record o { notices = set o.notices c.args.session false } in p in
    c.set_notice.ensures ∙ ap without_notice (c.drop_breaks_at.ensures ∙ ap without_breaks c.clear.ensures)
