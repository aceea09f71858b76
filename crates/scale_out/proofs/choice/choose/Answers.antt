use Rattle.std.proofs.Common.{sym}
use Rattle.std.proofs.lemmas.List.Kept.{AllPairs-from_increasing}
use Rattle.scale_out.proofs.Best.{is_member, is_greatest, is_least}
use Rattle.scale_out.proofs.Choices.{is_the_chosen}
use Rattle.scale_out.proofs.choice.choose.Goals as goal

pub returns-clause-least : goal.returns-clause-least
returns-clause-least c =
    is_least c.args.members.now c.args.key c.loop-member.member-index c.loop-member.best c.loop-member.invariant c.loop-member-test.false
    (AllPairs-from_increasing c.args.members.now c.requires.ascending)

pub returns-clause-value : goal.returns-clause-value
returns-clause-value c =
    let ascends = AllPairs-from_increasing c.args.members.now c.requires.ascending in
    sym (is_the_chosen c.args.members.now c.args.key c.loop-member.best c.requires.some ascends (record {
      stands = is_member c.args.members.now c.args.key c.loop-member.member-index c.loop-member.best c.loop-member.invariant c.loop-member-test.false;
      greatest = is_greatest c.args.members.now c.args.key c.loop-member.member-index c.loop-member.best c.loop-member.invariant c.loop-member-test.false;
      least = is_least c.args.members.now c.args.key c.loop-member.member-index c.loop-member.best c.loop-member.invariant c.loop-member-test.false ascends;
    }))
