use Rattle.hitless_cells.proofs.ByKind.{parts_of_fault}
use Rattle.machine_moment_laws.proofs.KeptAddresses.{not_put}
use Rattle.machine_moment_laws.proofs.Made.{valid}
use Rattle.machine_moment_laws.proofs.kept_laws.ports_that_are_not_put_keep_their_address.Goals as goal

pub returns : goal.returns
returns c = λ x e number w accepted none. not_put x e (valid x w) (parts_of_fault e x accepted).0 number none
