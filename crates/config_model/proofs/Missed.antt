-- The first required member of an object, where it is absent.
use Rattle.std.proofs.Common.{◌≡◌, ℕ, List, Some, None, Ok, Err, codes, refl}
use Rattle.serde_json.specs.Data.{Data, Members}
use Rattle.serde_json.specs.Find.{get, as_object}
use Rattle.config_model.specs.declared.fault.DocKind.TheVariants.{Missing}
use Rattle.config_model.specs.Paths.{member_path}
use Rattle.config_model.specs.Fields.{Reads, member_at, in_member, object_at, name_at, whole_at}
use Rattle.config_model.specs.Laws.{FirstIsMissed}
use Rattle.config_model.specs.Topology.{controller_at, node_at, topology_at, as_at, node_name_at}
use Rattle.config_model.specs.Config.{network_at, port_at, policy_at, service_at, chain_at, network_name_at}
use Rattle.config_model.specs.Rule.{rule_at, direction_at}
use Rattle.config_model.specs.Input.{packet_at, compile_at, reach_at}

pub object_there : (path : List ℕ) (d : Data) (members : Members) → as_object d ≡ Some members → object_at path d ≡ Ok members
unfolding object_at
object_there path d ms e = rw e refl

pub absent : {A : Type 0} (reads : Reads A) (path name : List ℕ) (d : Data) → get name d ≡ None → in_member reads path name d ≡ Err (record { path = member_path path name; kind = Missing })
unfolding in_member member_at
absent reads path name d e = rw e refl

pub topology_missed : FirstIsMissed topology_at (codes "as")
unfolding topology_at
topology_missed path d ms there none = rw (object_there path d ms there, absent as_at path (codes "as") d none) refl

pub controller_missed : FirstIsMissed controller_at (codes "name")
unfolding controller_at
controller_missed path d ms there none = rw (object_there path d ms there, absent node_name_at path (codes "name") d none) refl

pub node_missed : FirstIsMissed node_at (codes "name")
unfolding node_at
node_missed path d ms there none = rw (object_there path d ms there, absent node_name_at path (codes "name") d none) refl

pub network_missed : FirstIsMissed network_at (codes "name")
unfolding network_at
network_missed path d ms there none = rw (object_there path d ms there, absent network_name_at path (codes "name") d none) refl

pub port_missed : FirstIsMissed port_at (codes "name")
unfolding port_at
port_missed path d ms there none = rw (object_there path d ms there, absent name_at path (codes "name") d none) refl

pub policy_missed : FirstIsMissed policy_at (codes "name")
unfolding policy_at
policy_missed path d ms there none = rw (object_there path d ms there, absent name_at path (codes "name") d none) refl

pub rule_missed : FirstIsMissed rule_at (codes "direction")
unfolding rule_at
rule_missed path d ms there none = rw (object_there path d ms there, absent direction_at path (codes "direction") d none) refl

pub service_missed : FirstIsMissed service_at (codes "name")
unfolding service_at
service_missed path d ms there none = rw (object_there path d ms there, absent name_at path (codes "name") d none) refl

pub chain_missed : FirstIsMissed chain_at (codes "name")
unfolding chain_at
chain_missed path d ms there none = rw (object_there path d ms there, absent name_at path (codes "name") d none) refl

pub packet_missed : FirstIsMissed packet_at (codes "port")
unfolding packet_at
packet_missed path d ms there none = rw (object_there path d ms there, absent (whole_at 0 524271) path (codes "port") d none) refl

pub compile_missed : FirstIsMissed compile_at (codes "topology")
unfolding compile_at
compile_missed path d ms there none = rw (object_there path d ms there, absent topology_at path (codes "topology") d none) refl

pub reach_missed : FirstIsMissed reach_at (codes "topology")
unfolding reach_at
reach_missed path d ms there none = rw (object_there path d ms there, absent topology_at path (codes "topology") d none) refl
