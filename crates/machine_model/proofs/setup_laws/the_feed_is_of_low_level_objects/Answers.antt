use Rattle.machine_model.proofs.Feed.{entries-low, objects-low}
use Rattle.machine_model.proofs.setup_laws.the_feed_is_of_low_level_objects.Goals as goal

pub returns-clause-entries : goal.returns-clause-entries
returns-clause-entries c = entries-low

pub returns-clause-objects : goal.returns-clause-objects
returns-clause-objects c = objects-low
