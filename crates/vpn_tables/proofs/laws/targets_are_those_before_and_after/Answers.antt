use Rattle.std.proofs.Common.{refl}
use Rattle.vpn_tables.proofs.Importing.{no_publication_dropped, no_route_dropped, targets_of_publication, targets_of_route}
use Rattle.vpn_tables.proofs.laws.targets_are_those_before_and_after.Goals as goal

pub returns-clause-route : goal.returns-clause-route
returns-clause-route c = targets_of_route

pub returns-clause-feed : goal.returns-clause-feed
returns-clause-feed c = λ h d. refl

pub returns-clause-publication : goal.returns-clause-publication
returns-clause-publication c = targets_of_publication

pub returns-clause-no_route : goal.returns-clause-no_route
returns-clause-no_route c = no_route_dropped

pub returns-clause-no_publication : goal.returns-clause-no_publication
returns-clause-no_publication c = no_publication_dropped
