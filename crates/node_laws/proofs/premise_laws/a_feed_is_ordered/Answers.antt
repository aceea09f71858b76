use Rattle.node_laws.proofs.Worked.{longest, networks_small, ordered, use_is_held}
use Rattle.node_laws.proofs.premise_laws.a_feed_is_ordered.Goals as goal

pub returns-clause-held : goal.returns-clause-held
returns-clause-held c = use_is_held

pub returns-clause-ordered : goal.returns-clause-ordered
returns-clause-ordered c = ordered

pub returns-clause-short : goal.returns-clause-short
returns-clause-short c = ordered.short

pub returns-clause-networks : goal.returns-clause-networks
returns-clause-networks c = networks_small

pub returns-clause-longest : goal.returns-clause-longest
returns-clause-longest c = longest

pub returns-clause-numbered : goal.returns-clause-numbered
returns-clause-numbered c = record { numbers = ordered.numbers; short = ordered.short }

pub returns-clause-listed : goal.returns-clause-listed
returns-clause-listed c = ((λ b m. absurd m), tt)
