use Rattle.machine_moment_laws.proofs.Routed.{all_rows}
use Rattle.machine_moment_laws.proofs.common_laws.what_the_common_part_compiles_to_is_common.Goals as goal

pub returns : goal.returns
returns c = all_rows
