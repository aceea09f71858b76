-- What the slice in use gives to forward by, before any route.
use Rattle.std.specs.Prelude.{◌≡◌, []}
use Rattle.std.specs.BTreeMap.{IsOrdered}
use Rattle.std.specs.List.{All, AllByRecursion}
use Rattle.ov_types.specs.declared.numbers.InstanceId.{InstanceId}
use Rattle.packet_trace.specs.Circuits.{IsOfAUse}
use Rattle.node_core.specs.NodeModel.Agent.{Holdings, is_needed, rows as rows_of}
use Rattle.agent_tables.specs.Routes.{has_table, instance_order}
use Rattle.agent_tables.specs.declared.sliced.SliceTables.{SliceTables}

-- the labels and access lists of what is held, and a table of no routes for each instance that is needed
pub record AreOfSlice (h : Holdings) (t : SliceTables) : Type 0 where
  pub labels : t.labels ≡ (rows_of h).labels
  pub lists : t.acls ≡ (rows_of h).acls
  pub circuits : All (λ e. IsOfAUse e.1) t.labels
  pub tables : (i : InstanceId) → has_table t.fibs.entries i ≡ is_needed h i
  pub empty : AllByRecursion (λ u. u.1 ≡ []) t.fibs.entries
  pub ascending : IsOrdered instance_order t.fibs
