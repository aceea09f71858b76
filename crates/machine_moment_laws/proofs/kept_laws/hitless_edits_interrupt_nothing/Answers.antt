use Rattle.machine_moment_laws.proofs.Interrupting.{hitless_interrupts_nothing}
use Rattle.machine_moment_laws.proofs.kept_laws.hitless_edits_interrupt_nothing.Goals as goal

pub returns : goal.returns
returns c = hitless_interrupts_nothing
