use Rattle.std.proofs.Common.{refl}
use Rattle.ov_sync.specs.Keyed.{changed}
use Rattle.agent_tables.proofs.Touched.{routes_same, rows_stay, session_stays}
use Rattle.agent_tables.proofs.laws.what_is_no_route_changes_no_route.Goals as goal

pub returns-clause-heard : goal.returns-clause-heard
returns-clause-heard c = λ h session s change at e.
    session_stays h session s (record s { map = changed s.map change }) at refl (rows_stay s.map change e)

pub returns-clause-routes : goal.returns-clause-routes
returns-clause-routes c = routes_same
