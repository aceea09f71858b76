use Rattle.std.proofs.Common.{refl}
use Rattle.flow_acl.proofs.Decisions.{inside_passes, first_decides, none_denies}
use Rattle.flow_acl.proofs.laws.the_least_list_decides.Goals as goal

pub returns-clause-inside : goal.returns-clause-inside
returns-clause-inside c = λ lists n rs p distinct d. inside_passes lists n n rs p distinct d refl

pub returns-clause-first : goal.returns-clause-first
returns-clause-first c = λ lists n to before r behind p distinct apart d none here. first_decides lists n to before r behind p distinct apart d none here

pub returns-clause-none : goal.returns-clause-none
returns-clause-none c = λ lists n to rs p distinct apart d none. none_denies lists n to rs p distinct apart d none
