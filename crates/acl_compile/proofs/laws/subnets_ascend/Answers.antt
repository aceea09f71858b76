use Rattle.acl_compile.proofs.Orders.{ascending_permutes, ascending_rises}
use Rattle.acl_compile.proofs.laws.subnets_ascend.Goals as goal

pub returns : goal.returns
returns c = record { kept = ascending_permutes; order = ascending_rises }
