use Rattle.node_laws.proofs.StepFact.{step_is}
use Rattle.node_laws.proofs.step_laws.steps_tell_what_was_wanted.Goals as goal

pub returns : goal.returns
returns g c = λ accepted breaks faults k posts after session event links left lowest.
    step_is accepted breaks faults k posts after session event links left lowest
