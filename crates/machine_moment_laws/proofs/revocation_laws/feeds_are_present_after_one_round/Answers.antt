use Rattle.machine_moment_laws.proofs.Feeds.{feeds_are_present}
use Rattle.machine_moment_laws.proofs.revocation_laws.feeds_are_present_after_one_round.Goals as goal

pub returns : goal.returns
returns c = feeds_are_present
