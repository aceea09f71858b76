use Rattle.std.proofs.Common.{◌≡◌, take, drop}
use Rattle.ov_types.specs.First.{first_meeting, meeting_after}
use Rattle.chain_expand.specs.Expansion.{same_number}
use Rattle.chain_expand.proofs.numbers.first_twice.Given as goal

abbrev pub invariant-loop-index : goal.invariant-loop-index
invariant-loop-index l =
    first_meeting same_number l.services ≡ meeting_after same_number (take l.index l.services) (drop l.index l.services)
