use Rattle.std.proofs.Common.{sym}
use Rattle.scale_out.proofs.Kept.{for_some, for_increase}
use Rattle.scale_out.proofs.spread.member_of.Goals as goal

pub choose-requires-clause-some : goal.choose-requires-clause-some
choose-requires-clause-some c =
    let some = for_some c.args.config.now c.args.groups.now c.args.number c.in-Some.group.now (sym c.in-Some.ensures) c.requires.form in
    rw c.as_slice.ensures some

pub choose-requires-clause-ascending : goal.choose-requires-clause-ascending
choose-requires-clause-ascending c =
    let increase = for_increase c.args.config.now c.args.groups.now c.args.number c.in-Some.group.now (sym c.in-Some.ensures) c.requires.form in
    rw c.as_slice.ensures increase
