use Rattle.std.proofs.Common.{◌≡◌, take, drop}
use Rattle.ov_types.specs.First.{meeting_after, first_meeting}
use Rattle.config_check.specs.Rules.{overlap}
use Rattle.config_check.proofs.subnets.first_overlapping.Given as goal

abbrev pub invariant-loop-index : goal.invariant-loop-index
invariant-loop-index l = meeting_after overlap (take l.index l.prefixes) (drop l.index l.prefixes) ≡ first_meeting overlap l.prefixes
