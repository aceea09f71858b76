-- What is put for each network and for each circuit in turn.
use Rattle.std.specs.Prelude.{◌==◌, ◌||◌, List, [], ◌∷◌, if◌then◌else◌}
use Rattle.ov_types.specs.First.{same_name}
use Rattle.ov_types.specs.declared.numbers.InstanceId.{InstanceId}
use Rattle.route_targets.specs.Numbers.{circuit_instance_of}
use Rattle.config_types.specs.declared.config.Config.{Config}
use Rattle.config_types.specs.declared.config.Network.{Network}
use Rattle.config_types.specs.declared.topology.Topology.{Topology}
use Rattle.policy_rules.specs.Related.{are_related}
use Rattle.transform_model.specs.Objects.{LowObject, acl_object}
use Rattle.transform_model.specs.Tables.{Row, subnet_rows}
use Rattle.transform_model.specs.Uses.{Circuit}

-- the access list of a network towards another, where that is the same or related to it
abbrev pub acl_towards : Config → Network → Network → List LowObject
acl_towards c a m =
    if same_name m.name a.name || are_related c a m then acl_object c a m ∷ [] else []

-- the subnets of a network towards a circuit, where it is in the instance
abbrev pub rows_if_in : Topology → Config → InstanceId → Network → Circuit → List Row
rows_if_in t c i n k = if (circuit_instance_of k.number).0 == i.0 then subnet_rows t c i n k else []
