use Rattle.machine_laws.proofs.Small.{small_settles, small_settle_settles}
use Rattle.machine_laws.proofs.settling_laws.the_least_network_settles.Goals as goal

pub returns-clause-rounds : goal.returns-clause-rounds
returns-clause-rounds c = λ size positive asn a b config es leave. small_settles asn a b config size positive es leave

pub returns-clause-settle : goal.returns-clause-settle
returns-clause-settle c = λ size positive asn a b config es leave. small_settle_settles asn a b config size positive es leave
