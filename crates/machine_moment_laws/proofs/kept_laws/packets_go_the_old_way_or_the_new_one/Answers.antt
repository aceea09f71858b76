use Rattle.machine_moment_laws.proofs.Interrupting.{goes_by_either}
use Rattle.machine_moment_laws.proofs.kept_laws.packets_go_the_old_way_or_the_new_one.Goals as goal

pub returns : goal.returns
returns c = goes_by_either
