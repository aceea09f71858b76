use Rattle.node_laws.proofs.AtTheEnd.{same, told}
use Rattle.node_laws.proofs.step_laws.what_is_held_at_the_end_is_told.Goals as goal

pub returns : goal.returns
returns g c = λ accepted breaks faults k posts after session given links left lowest wants s none. (
  same accepted breaks faults k posts after session given links left lowest s none,
  told accepted breaks faults k posts after session given links left lowest s none wants,
)
