use Rattle.std.proofs.Common.{refl}
use Rattle.ov_sync.specs.Keyed.{changed}
use Rattle.agent_tables.proofs.Held.{list_changed, session_listed}
use Rattle.agent_tables.specs.Listed.{list_between}
use Rattle.agent_tables.proofs.laws.an_access_list_changes_alone.Goals as goal

pub returns : goal.returns
returns c = λ h session s change n at e.
    session_listed h session s (record s { map = changed s.map change }) (list_between n) at refl (list_changed s.map change n e)
