-- What the uses of chains in effect and their circuits are.
use Rattle.std.specs.Prelude.{◌≡◌, ℕ, ◌+◌, ◌≤◌, slice_get, List, length, Some}
use Rattle.std.specs.List.{Contains}
use Rattle.ov_types.specs.declared.numbers.InstanceId.{InstanceId}
use Rattle.node_model.specs.RouteTargets.Numbers.{hop_instance_of, left_circuit_of, right_circuit_of}
use Rattle.acl_compile.specs.ConfigTypes.Action.TheVariants.{Through}
use Rattle.acl_compile.specs.ConfigTypes.Config.{Config}
use Rattle.acl_compile.specs.ConfigTypes.End.TheVariants.{Named}
use Rattle.acl_compile.specs.ConfigTypes.Network.{Network}
use Rattle.acl_compile.specs.ConfigTypes.Policy.{Policy}
use Rattle.acl_compile.specs.ConfigTypes.Rule.{Rule}
use Rattle.acl_compile.specs.ChainExpand.Expansion.{expansion}
use Rattle.transform_model.specs.Uses.{ConfiguredUse, Circuit}

-- a use is in effect: a rule of a policy leads through a chain by the use's number, from the left network to the right
-- one, which both attach that policy; its services are those of the chain
pub record IsUse (c : Config) (u : ConfiguredUse) : Type 0 where
  pub policy : Policy
  pub rule : Rule
  pub chain : List ℕ
  pub has_policy : Contains c.policies policy
  pub has_rule : Contains policy.rules rule
  pub leads : rule.action ≡ Through chain u.number
  pub from : rule.source ≡ Named u.left.name
  pub to : rule.destination ≡ Named u.right.name
  pub has_left : Contains c.networks u.left
  pub has_right : Contains c.networks u.right
  pub left_attaches : Contains u.left.policies policy.name
  pub right_attaches : Contains u.right.policies policy.name
  pub services : u.services ≡ expansion c chain

-- a circuit is the left one, or the right one, of the service at a place of a use; places count from 0 here, and the
-- circuits' services from 1
pub record IsLeftCircuit (u : ConfiguredUse) (place : ℕ) (k : Circuit) : Type 0 where
  pub service : slice_get u.services place ≡ Some k.service
  pub number : k.number ≡ left_circuit_of u.number (place + 1)

pub record IsRightCircuit (u : ConfiguredUse) (place : ℕ) (k : Circuit) : Type 0 where
  pub service : slice_get u.services place ≡ Some k.service
  pub number : k.number ≡ right_circuit_of u.number (place + 1)

-- an instance of a configuration: that of a network, or of a hop of a use in effect, before its first service or behind
-- one of them
pub data IsInstance (c : Config) (i : InstanceId) : Type 0 where
  of_network : (n : Network) → Contains c.networks n → i ≡ n.id → IsInstance c i
  of_hop : (u : ConfiguredUse) (j : ℕ) → IsUse c u → j ≤ length u.services → i ≡ hop_instance_of u.number j → IsInstance c i
