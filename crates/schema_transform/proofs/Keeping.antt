-- What is found among the tables that are kept.
use Rattle.std.proofs.Common.{◌≡◌, List, sym, ap, subst, ◌∙◌}
use Rattle.std.specs.List.{IsAmong}
use Rattle.std.specs.Map.{values_of}
use Rattle.ov_types.specs.declared.numbers.InstanceId.{InstanceId}
use Rattle.config_types.specs.declared.config.Config.{Config}
use Rattle.config_types.specs.declared.topology.Topology.{Topology}
use Rattle.transform_model.specs.Tables.{instance_table}
use Rattle.schema_transform.specs.Kept.{AreTables, IsTable}
use Rattle.schema_transform.specs.declared.kept_table.KeptTable.{KeptTable}

pub kept_is : (t : Topology) (c : Config) (entries : List (InstanceId × KeptTable)) (k : KeptTable) (i : InstanceId)
    → AreTables t c entries → IsAmong (values_of entries) k → k.instance ≡ i → k.rows ≡ instance_table t c i
kept_is t c entries k i h among same =
    subst (IsTable t c) (sym among.1.1) (h among.0 k among.1.0) ∙ ap (instance_table t c) same
