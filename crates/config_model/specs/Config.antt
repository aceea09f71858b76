-- The written form of a configuration.
use Rattle.std.specs.Prelude.{ℕ, ◌∷◌, [], List, codes, Result, Ok}
use Rattle.serde_json.specs.Data.{Data}
use Rattle.config_model.specs.declared.fields.Count.TheVariants.{AnyNumber, AtLeastOne}
use Rattle.config_types.specs.declared.config.Network.{Network}
use Rattle.config_types.specs.declared.config.Port.{Port}
use Rattle.config_types.specs.declared.config.Policy.{Policy}
use Rattle.config_types.specs.declared.config.Service.{Service}
use Rattle.config_types.specs.declared.config.Chain.{Chain}
use Rattle.config_types.specs.declared.config.Config.{Config}
use Rattle.config_model.specs.Faults.{Fault, ◌>>=◌}
use Rattle.config_model.specs.Fields.{object_at, in_member, whole_at, name_at, name_but_at, address_at, prefix_at}
use Rattle.config_model.specs.Fields.{only_at, all_at, optional_all}
use Rattle.config_model.specs.Rule.{rule_at}

-- the name of a network: rules say `any` for all networks
abbrev pub network_name_at : List ℕ → Data → Result (List ℕ) Fault
network_name_at = name_but_at (codes "any")

unfoldable pub network_at : List ℕ → Data → Result Network Fault
network_at path d = do
  members ← object_at path d
  name ← in_member network_name_at path (codes "name") d
  id ← in_member (whole_at 1 16383) path (codes "id") d
  subnets ← in_member (all_at prefix_at AnyNumber) path (codes "subnets") d
  policies ← optional_all name_at path (codes "policies") d
  done ← only_at path (codes "name" ∷ codes "id" ∷ codes "subnets" ∷ codes "policies" ∷ []) members
  Ok (record { name = name; id = record { 0 = id }; subnets = subnets; policies = policies })

unfoldable pub port_at : List ℕ → Data → Result Port Fault
port_at path d = do
  members ← object_at path d
  name ← in_member name_at path (codes "name") d
  id ← in_member (whole_at 0 524271) path (codes "id") d
  network ← in_member name_at path (codes "network") d
  address ← in_member (address_at 0 0xffff_ffff) path (codes "address") d
  node ← in_member name_at path (codes "node") d
  done ← only_at path (codes "name" ∷ codes "id" ∷ codes "network" ∷ codes "address" ∷ codes "node" ∷ []) members
  Ok (record { name = name; id = record { 0 = id }; network = network; address = address; node = node })

unfoldable pub policy_at : List ℕ → Data → Result Policy Fault
policy_at path d = do
  members ← object_at path d
  name ← in_member name_at path (codes "name") d
  sequence ← in_member (whole_at 0 65535) path (codes "sequence") d
  rules ← in_member (all_at rule_at AnyNumber) path (codes "rules") d
  done ← only_at path (codes "name" ∷ codes "sequence" ∷ codes "rules" ∷ []) members
  Ok (record { name = name; sequence = sequence; rules = rules })

unfoldable pub service_at : List ℕ → Data → Result Service Fault
service_at path d = do
  members ← object_at path d
  name ← in_member name_at path (codes "name") d
  id ← in_member (whole_at 0 65535) path (codes "id") d
  node ← in_member name_at path (codes "node") d
  done ← only_at path (codes "name" ∷ codes "id" ∷ codes "node" ∷ []) members
  Ok (record { name = name; id = record { 0 = id }; node = node })

unfoldable pub chain_at : List ℕ → Data → Result Chain Fault
chain_at path d = do
  members ← object_at path d
  name ← in_member name_at path (codes "name") d
  hops ← in_member (all_at name_at AtLeastOne) path (codes "hops") d
  done ← only_at path (codes "name" ∷ codes "hops" ∷ []) members
  Ok (record { name = name; hops = hops })

unfoldable pub config_at : List ℕ → Data → Result Config Fault
config_at path d = do
  members ← object_at path d
  networks ← optional_all network_at path (codes "networks") d
  ports ← optional_all port_at path (codes "ports") d
  policies ← optional_all policy_at path (codes "policies") d
  services ← optional_all service_at path (codes "services") d
  chains ← optional_all chain_at path (codes "chains") d
  done ← only_at path
      (codes "networks" ∷ codes "ports" ∷ codes "policies" ∷ codes "services" ∷ codes "chains" ∷ []) members
  Ok (record { networks = networks; ports = ports; policies = policies; services = services; chains = chains })
