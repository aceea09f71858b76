use Rattle.std.proofs.Common.{◌≡◌, ◌==◌, ◌||◌, List, [], drop}
use Rattle.std.specs.BTreeMap.{BTreeMap, IsOrdered}
use Rattle.std.specs.List.{AllByRecursion, list_any}
use Rattle.ov_types.specs.Prefix.{Block}
use Rattle.ov_types.specs.declared.numbers.InstanceId.{InstanceId}
use Rattle.ov_types.specs.declared.rows.Entry.{Entry}
use Rattle.agent_tables.specs.Routes.{has_table, instance_order}
use Rattle.agent_tables.proofs.fibs.empty_fibs.Given as goal

pub record Opened (fibs : BTreeMap InstanceId (List (Block × Entry))) (left all : List InstanceId) : Type 0 where
  pub tables : (i : InstanceId) → (has_table fibs.entries i || list_any (λ n. n.0 == i.0) left) ≡ list_any (λ n. n.0 == i.0) all
  pub empty : AllByRecursion (λ t. t.1 ≡ []) fibs.entries
  pub ordered : IsOrdered instance_order fibs

abbrev pub invariant-loop-instance : goal.invariant-loop-instance
invariant-loop-instance l = Opened l.fibs (drop l.instance-index l.instances) l.instances
