-- The written form of a topology.
use Rattle.std.specs.Prelude.{ℕ, ◌∷◌, [], List, not, codes, Result, Ok}
use Rattle.serde_json.specs.Data.{Data}
use Rattle.ov_types.specs.declared.prefix.Addr.{Addr}
use Rattle.ov_types.specs.declared.rows.NodeId.{NodeId}
use Rattle.config_model.specs.declared.fields.Count.TheVariants.{AtLeastOne, OneOrTwo}
use Rattle.config_types.specs.declared.topology.Node.{Node}
use Rattle.config_types.specs.declared.topology.Topology.{Topology}
use Rattle.config_types.specs.Form.{is_reserved_as}
use Rattle.config_model.specs.Faults.{Fault, ◌>>=◌, kept}
use Rattle.config_model.specs.Fields.{object_at, in_member, whole_at, name_at, name_but_at, address_at, only_at, all_at}

-- the number of an autonomous system
unfoldable pub as_at : List ℕ → Data → Result ℕ Fault
as_at path d = do
  n ← whole_at 1 4294967294 path d
  kept path (not (is_reserved_as n)) n

-- the address of a node: 1.0.0.0 to 223.255.255.255
abbrev pub node_address_at : List ℕ → Data → Result Addr Fault
node_address_at = address_at 0x0100_0000 0xdfff_ffff

-- the name of a node: `config` is that of the configuration node
abbrev pub node_name_at : List ℕ → Data → Result (List ℕ) Fault
node_name_at = name_but_at (codes "config")

unfoldable pub controller_at : List ℕ → Data → Result NodeId Fault
controller_at path d = do
  members ← object_at path d
  name ← in_member node_name_at path (codes "name") d
  address ← in_member node_address_at path (codes "address") d
  done ← only_at path (codes "name" ∷ codes "address" ∷ []) members
  Ok (record { name = name; address = address })

unfoldable pub node_at : List ℕ → Data → Result Node Fault
node_at path d = do
  members ← object_at path d
  name ← in_member node_name_at path (codes "name") d
  address ← in_member node_address_at path (codes "address") d
  controllers ← in_member (all_at name_at OneOrTwo) path (codes "controllers") d
  done ← only_at path (codes "name" ∷ codes "address" ∷ codes "controllers" ∷ []) members
  Ok (record { name = name; address = address; controllers = controllers })

unfoldable pub topology_at : List ℕ → Data → Result Topology Fault
topology_at path d = do
  members ← object_at path d
  asn ← in_member as_at path (codes "as") d
  controllers ← in_member (all_at controller_at AtLeastOne) path (codes "controllers") d
  nodes ← in_member (all_at node_at AtLeastOne) path (codes "nodes") d
  done ← only_at path (codes "as" ∷ codes "controllers" ∷ codes "nodes" ∷ []) members
  Ok (record { asn = asn; controllers = controllers; nodes = nodes })
