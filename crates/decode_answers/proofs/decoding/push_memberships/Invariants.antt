use Rattle.std.proofs.Common.{◌≡◌, ◌++◌, drop}
use Rattle.decode_answers.specs.Decoding.{membership_lines}
use Rattle.decode_answers.proofs.decoding.push_memberships.Given as goal

abbrev pub invariant-loop-change : goal.invariant-loop-change
invariant-loop-change l = l.out ++ membership_lines (drop l.change-index l.changes) ≡ l.fn.out ++ membership_lines l.changes
