use Rattle.node_core.proofs.Maps.{nothing_fits, changed_fits, after_fits}
use Rattle.node_core.proofs.laws.changes_keep_what_fits.Goals as goal

pub returns-clause-nothing : goal.returns-clause-nothing
returns-clause-nothing c = nothing_fits

pub returns-clause-one : goal.returns-clause-one
returns-clause-one c = changed_fits

pub returns-clause-all : goal.returns-clause-all
returns-clause-all c = after_fits
