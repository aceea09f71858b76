use Rattle.std.proofs.Common.{◌≡◌, [], ◌∷◌, ℕ, ap, refl, sym}
use Rattle.std.specs.declared.option.Option.TheVariants.{Some}
use Rattle.ov_sync.specs.Keyed.{changed}
use Rattle.node_core.specs.NodeModel.Agent.{Heard, Holdings, needed, rows as rows_of, told_of}
use Rattle.node_core.specs.NodeModel.Maps.{Change}
use Rattle.node_core.specs.NodeModel.Step.{At}
use Rattle.agent_tables.specs.Touched.{AgreeBut, RowKey, route_key, told}
use Rattle.agent_tables.proofs.Touched.{one_changed, same_slice, session_changed, tables_remade}
use Rattle.agent_tables.proofs.laws.a_route_changes_one_row.Goals as goal

agrees : (h : Holdings) (session : ℕ) (s : Heard) (change : Change) (k : RowKey) → At h session s → route_key (Some change) ≡ Some k → AgreeBut (k ∷ []) h (told h session s change)
agrees h session s change k at e = session_changed h session s (record s { map = changed s.map change }) (k ∷ []) at refl (one_changed s.map change k e)

pub returns-clause-rows : goal.returns-clause-rows
returns-clause-rows c = λ h session s change k at e.
    sym (tables_remade h (told h session s change) (record { rows = rows_of h; instances = needed h }) (k ∷ [])
    (record { rows = refl; instances = λ i. refl }) (agrees h session s change k at e)).rows

pub returns-clause-wanted : goal.returns-clause-wanted
returns-clause-wanted c = λ h session s change k at e.
    ap told_of (sym (same_slice h (told h session s change) (agrees h session s change k at e).besides))
