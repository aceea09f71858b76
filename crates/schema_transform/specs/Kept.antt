-- Tables that are kept.
use Rattle.std.specs.Prelude.{◌≡◌, List}
use Rattle.std.specs.List.{All}
use Rattle.std.specs.Map.{values_of}
use Rattle.ov_types.specs.declared.numbers.InstanceId.{InstanceId}
use Rattle.config_types.specs.declared.config.Config.{Config}
use Rattle.config_types.specs.declared.topology.Topology.{Topology}
use Rattle.transform_model.specs.Tables.{instance_table}
use Rattle.schema_transform.specs.declared.kept_table.KeptTable.{KeptTable}

-- what is kept is the table of its instance
abbrev pub IsTable : Topology → Config → KeptTable → Type 0
IsTable t c k = k.rows ≡ instance_table t c k.instance

abbrev pub AreTables : Topology → Config → List (InstanceId × KeptTable) → Type 0
AreTables t c entries = All (IsTable t c) (values_of entries)
