-- What is told of configurations so far: each object was one of theirs, and each label leads where one of them had it lead.
use Rattle.std.specs.FinMap.{get}
use Rattle.std.specs.List.{Contains}
use Rattle.std.specs.Prelude.{IsTrue, List, Some, false, length, slice_get, true, ℕ, [], ◌+◌, ◌<◌, ◌∷◌, ◌≡◌, ◌≤◌, ◌⊎◌}
use Rattle.ov_types.specs.Prefix.{Block, host_prefix}
use Rattle.ov_types.specs.declared.numbers.InstanceId.{InstanceId}
use Rattle.ov_types.specs.declared.numbers.Label.{Label as LabelNo}
use Rattle.ov_types.specs.declared.numbers.ServiceNo.{ServiceNo}
use Rattle.ov_types.specs.declared.objects.AclRule.{AclRule}
use Rattle.ov_types.specs.declared.objects.LowKey.{LowKey}
use Rattle.ov_types.specs.declared.objects.LowKey.TheVariants as key
use Rattle.ov_types.specs.declared.objects.LowValue.{LowValue}
use Rattle.ov_types.specs.declared.objects.LowValue.TheVariants as low
use Rattle.route_targets.specs.Numbers.{circuit_address_of, circuit_instance_of, circuit_label_of, hop_instance_of, left_circuit_of, port_label_of, right_circuit_of, target_of}
use Rattle.config_types.specs.Form.{has_config_form}
use Rattle.config_types.specs.declared.config.Config.{Config}
use Rattle.config_types.specs.declared.config.Network.{Network}
use Rattle.config_types.specs.declared.config.Port.{Port}
use Rattle.config_types.specs.declared.config.Service.{Service}
use Rattle.config_types.specs.declared.topology.Topology.{Topology}
use Rattle.reach_plain.specs.PolicyRules.Standing.{AreRelated}
use Rattle.schedule_script.specs.ConfigCheck.Sentences.{IsValid}
use Rattle.schedule_script.specs.Ties.{IsTiedBy, Ties}
use Rattle.transform_model.specs.AclCompile.Oriented.{acl_rules, ascending}
use Rattle.transform_model.specs.IsUse.{IsUse}
use Rattle.transform_model.specs.Uses.{ConfiguredUse}
use Rattle.node_laws.specs.NodeModel.Keys.{Key, Low, Publish, Row, Vpn}
use Rattle.node_laws.specs.NodeModel.Maps.{Map}
use Rattle.node_laws.specs.NodeModel.Members.{Member}
use Rattle.node_laws.specs.NodeModel.Uses.{is_hop}
use Rattle.node_laws.specs.NodeModel.Values.{Entry, Label, Object, Route, Value}
use Rattle.machine_model.specs.Session.{Role}
use Rattle.machine_model.specs.Setup.{Name}

-- a circuit, in its instance and under its host prefix
pub record IsCircuitOf (i : InstanceId) (prefix : Block) (label : LabelNo) : Type 0 where
  pub circuit : ℕ
  pub few : circuit ≤ 131070
  pub of_hop : is_hop i ≡ true
  pub instance : i ≡ circuit_instance_of circuit
  pub prefix_is : prefix ≡ host_prefix (circuit_address_of circuit).0
  pub label_is : label ≡ circuit_label_of circuit

module _ (t : Ties) (cs : List Config) where
  -- a valid configuration so far, as the ties have it
  pub record IsSoFar (c : Config) : Type 0 where
    pub among : Member c cs
    pub topology : Topology
    pub form : IsTrue (has_config_form c)
    pub valid : IsValid topology c
    pub as_tied : IsTiedBy t c

  -- ---- labels
  -- a port of the network of this number, under its host prefix
  pub record IsPortOf (i : InstanceId) (prefix : Block) (label : LabelNo) : Type 0 where
    pub config : Config
    pub so_far : IsSoFar config
    pub port : Port
    pub home : Network
    pub has_port : Contains config.ports port
    pub has_home : Contains config.networks home
    pub home_of : port.network ≡ home.name
    pub number : home.id ≡ i
    pub prefix_is : prefix ≡ host_prefix port.address.0
    pub label_is : label ≡ port_label_of port.id

  -- what is attached in an instance
  abbrev pub IsHostOf : InstanceId → Block → LabelNo → Type 0
  IsHostOf i prefix label = IsPortOf i prefix label ⊎ IsCircuitOf i prefix label

  -- a subnet of the right network of a use, in the instance before one of its services: the left circuit of that service
  pub record LeadsRight (i : InstanceId) (prefix : Block) (label : LabelNo) : Type 0 where
    pub config : Config
    pub so_far : IsSoFar config
    pub in_effect : ConfiguredUse
    pub is_use : IsUse config in_effect
    pub place : ℕ
    pub within : place < length in_effect.services
    pub instance : i ≡ hop_instance_of in_effect.number place
    pub subnet : Contains in_effect.right.subnets prefix
    pub label_is : label ≡ circuit_label_of (left_circuit_of in_effect.number (place + 1))

  -- a subnet of the left network, in the instance behind one of them: its right circuit
  pub record LeadsLeft (i : InstanceId) (prefix : Block) (label : LabelNo) : Type 0 where
    pub config : Config
    pub so_far : IsSoFar config
    pub in_effect : ConfiguredUse
    pub is_use : IsUse config in_effect
    pub place : ℕ
    pub within : place < length in_effect.services
    pub instance : i ≡ hop_instance_of in_effect.number (place + 1)
    pub subnet : Contains in_effect.left.subnets prefix
    pub label_is : label ≡ circuit_label_of (right_circuit_of in_effect.number (place + 1))

  -- what has the target of an instance
  pub data IsOwn (i : InstanceId) (prefix : Block) (label : LabelNo) : Type 0 where
    attached : IsHostOf i prefix label → IsOwn i prefix label
    rightwards : LeadsRight i prefix label → IsOwn i prefix label
    leftwards : LeadsLeft i prefix label → IsOwn i prefix label

  -- the ports of the left network at the left end of a use, and those of the right network at its right end
  pub record IsLeftEnd (i : InstanceId) (prefix : Block) (label : LabelNo) : Type 0 where
    pub config : Config
    pub so_far : IsSoFar config
    pub in_effect : ConfiguredUse
    pub is_use : IsUse config in_effect
    pub instance : i ≡ hop_instance_of in_effect.number 0
    pub port : IsPortOf in_effect.left.id prefix label

  pub record IsRightEnd (i : InstanceId) (prefix : Block) (label : LabelNo) : Type 0 where
    pub config : Config
    pub so_far : IsSoFar config
    pub in_effect : ConfiguredUse
    pub is_use : IsUse config in_effect
    pub instance : i ≡ hop_instance_of in_effect.number (length in_effect.services)
    pub port : IsPortOf in_effect.right.id prefix label

  -- what a row of an instance is
  pub data IsRowOf (i : InstanceId) (prefix : Block) (label : LabelNo) : Type 0 where
    own : IsOwn i prefix label → IsRowOf i prefix label
    near : (n : InstanceId) → is_hop i ≡ false → IsPortOf n prefix label → IsRowOf i prefix label
    left_end : IsLeftEnd i prefix label → IsRowOf i prefix label
    right_end : IsRightEnd i prefix label → IsRowOf i prefix label

  -- ---- low-level objects
  -- a circuit of the service at a place of a use
  pub record IsServiceAt (circuit : ℕ) (service : ServiceNo) : Type 0 where
    pub config : Config
    pub so_far : IsSoFar config
    pub in_effect : ConfiguredUse
    pub is_use : IsUse config in_effect
    pub place : ℕ
    pub item : Service
    pub there : slice_get in_effect.services place ≡ Some item
    pub number_is : item.id ≡ service
    pub side : (circuit ≡ left_circuit_of in_effect.number (place + 1)) ⊎ (circuit ≡ right_circuit_of in_effect.number (place + 1))

  -- the access list from a network to itself or to one that is related to it
  pub record IsAclOf (from to : ℕ) (subnets : List Block) (rules : List AclRule) : Type 0 where
    pub config : Config
    pub so_far : IsSoFar config
    pub leaves : Network
    pub enters : Network
    pub has_leaves : Contains config.networks leaves
    pub has_enters : Contains config.networks enters
    pub related : (leaves ≡ enters) ⊎ AreRelated config leaves enters
    pub from_is : leaves.id.0 ≡ from
    pub to_is : enters.id.0 ≡ to
    pub subnets_are : subnets ≡ ascending enters.subnets
    pub rules_are : rules ≡ acl_rules config leaves enters

  -- a use in effect
  pub record IsUseOf (number : ℕ) (left right : InstanceId) (left_subnets right_subnets : List Block) (services : ℕ) : Type 0 where
    pub config : Config
    pub so_far : IsSoFar config
    pub in_effect : ConfiguredUse
    pub is_use : IsUse config in_effect
    pub number_is : in_effect.number ≡ number
    pub left_is : in_effect.left.id ≡ left
    pub right_is : in_effect.right.id ≡ right
    pub left_subnets_are : left_subnets ≡ ascending in_effect.left.subnets
    pub right_subnets_are : right_subnets ≡ ascending in_effect.right.subnets
    pub services_are : length in_effect.services ≡ services

  abbrev pub ObjectStood : LowKey → LowValue → Type 0
  ObjectStood (key.Instance n) (low.Instance imports) = (m : InstanceId) → Member m imports → is_hop m ≡ false
  ObjectStood (key.Attach label) (low.AttachPort port instance address node) =
      IsPortOf instance (host_prefix address.0) (record { 0 = label })
  ObjectStood (key.Attach label) (low.AttachCircuit circuit service node) =
      (label ≡ (circuit_label_of circuit).0) × IsServiceAt circuit service
  ObjectStood (key.Acl from to) (low.Acl subnets rules) = IsAclOf from to subnets rules
  ObjectStood (key.ChainUse number) (low.ChainUse left right left_subnets right_subnets hops) =
      IsUseOf number left right left_subnets right_subnets (length hops)
  ObjectStood _ _ = Unit {0}

  -- ---- all that is told
  abbrev pub EntryStood : ℕ → Key → Value → Type 0
  EntryStood asn (Low k) (Object v) = ObjectStood k v
  EntryStood asn (Vpn k) (Route r) = (i : InstanceId) × (r.targets ≡ target_of asn i ∷ []) × IsOwn i k.prefix r.label
  EntryStood asn (Publish i prefix) (Label label) = IsHostOf i prefix label
  EntryStood asn (Row i prefix) (Entry hop) = IsRowOf i prefix hop.label
  EntryStood asn _ _ = Unit {0}

  abbrev pub AllStood : ℕ → Map → Type 0
  AllStood asn m = (k : Key) (v : Value) → get m k ≡ Some v → EntryStood asn k v

  -- on each session, in both directions
  abbrev pub stood : ℕ → Name × Role → Name × Role → Key → Value → Type 0
  stood asn from to k v = EntryStood asn k v
