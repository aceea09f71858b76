-- Configurations of moments are valid.
use Rattle.running_laws.proofs.Joined.{moment_joined}
use Rattle.running_laws.proofs.Moments.{moment_numbers, moment_sessions, moment_written}
use Rattle.running_laws.proofs.telling_laws.moments_are_of_valid_configurations.Goals as goal

pub returns-clause-written : goal.returns-clause-written
returns-clause-written c = moment_written

pub returns-clause-sessions : goal.returns-clause-sessions
returns-clause-sessions c = moment_sessions

pub returns-clause-numbers : goal.returns-clause-numbers
returns-clause-numbers c = moment_numbers

pub returns-clause-joined : goal.returns-clause-joined
returns-clause-joined c = moment_joined
