-- Events lead from moments to moments.
use Rattle.running_laws.proofs.Moments.{moment_next, moment_of, moment_unbroken}
use Rattle.running_laws.proofs.telling_laws.moments_lead_to_moments.Goals as goal

pub returns-clause-first : goal.returns-clause-first
returns-clause-first c = moment_of

pub returns-clause-events : goal.returns-clause-events
returns-clause-events c = λ w m e valid. moment_next w e m valid

pub returns-clause-unbroken : goal.returns-clause-unbroken
returns-clause-unbroken c = moment_unbroken
