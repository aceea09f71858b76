use Rattle.machine_model.proofs.Feed.{longest_bounds, longest_met}
use Rattle.machine_model.proofs.setup_laws.the_longest_chain_is_in_effect.Goals as goal

pub returns-clause-greatest : goal.returns-clause-greatest
returns-clause-greatest c = longest_bounds

pub returns-clause-met : goal.returns-clause-met
returns-clause-met c = longest_met
