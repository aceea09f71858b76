use Rattle.policy_regions.proofs.Boxes.{between_decides, between_does, between_lies}
use Rattle.policy_regions.proofs.laws.each_tuple_lies_in_one_region.Goals as goal

pub returns-clause-partition : goal.returns-clause-partition
returns-clause-partition c = between_lies

pub returns-clause-decided : goal.returns-clause-decided
returns-clause-decided c = between_decides

pub returns-clause-effect : goal.returns-clause-effect
returns-clause-effect c = between_does
