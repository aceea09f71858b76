-- The uses of chains that are in effect, and the circuits of their services.
use Rattle.std.specs.Prelude.{ℕ, zero, suc, ◌+◌, ◌&&◌, List, [], ◌∷◌, length, flat_map, Option, Some, None}
use Rattle.std.specs.Prelude.{if◌then◌else◌}
use Rattle.std.specs.List.{filter_map}
use Rattle.ov_types.specs.declared.numbers.InstanceId.{InstanceId}
use Rattle.node_model.specs.RouteTargets.Numbers.{hop_instance_of, left_circuit_of, right_circuit_of}
use Rattle.acl_compile.specs.ConfigTypes.Action.{Action}
use Rattle.acl_compile.specs.ConfigTypes.Action.TheVariants.{Pass, Deny, Through}
use Rattle.acl_compile.specs.ConfigTypes.Config.{Config}
use Rattle.acl_compile.specs.ConfigTypes.End.{End}
use Rattle.acl_compile.specs.ConfigTypes.End.TheVariants.{Any, Named}
use Rattle.acl_compile.specs.ConfigTypes.Network.{Network}
use Rattle.acl_compile.specs.ConfigTypes.Policy.{Policy}
use Rattle.acl_compile.specs.ConfigTypes.Rule.{Rule}
use Rattle.acl_compile.specs.ConfigTypes.Service.{Service}
use Rattle.acl_compile.specs.ChainExpand.Expansion.{expansion}
use Rattle.acl_compile.specs.PolicyRules.Related.{attaches}
use Rattle.acl_compile.specs.ConfigCheck.Finding.{network_named}

-- the use of a chain by a rule: its number, the networks that the rule names, and the services of the chain
pub record ConfiguredUse : Type 0 where
  pub number : ℕ
  pub left : Network
  pub right : Network
  pub services : List Service

-- the network that an end names
abbrev pub network_at : Config → End → Option Network
network_at c Any = None
network_at c (Named name) = network_named c name

-- a use is in effect where both networks attach the policy of its rule
abbrev pub use_between : Config → Policy → List ℕ → ℕ → Option Network → Option Network → Option ConfiguredUse
use_between c p chain number (Some left) (Some right) =
    if attaches left p && attaches right p
    then Some (record { number = number; left = left; right = right; services = expansion c chain }) else None
use_between c p chain number _ _ = None

abbrev pub use_by : Config → Policy → Rule → Action → Option ConfiguredUse
use_by c p r Pass = None
use_by c p r Deny = None
use_by c p r (Through chain number) =
    use_between c p chain number (network_at c r.source) (network_at c r.destination)

abbrev pub uses_of : Config → Policy → List ConfiguredUse
uses_of c p = filter_map (λ r. use_by c p r r.action) p.rules

-- the uses in effect, in the order of the document
abbrev pub uses : Config → List ConfiguredUse
uses c = flat_map (uses_of c) c.policies

-- ---- the instances of a use: one before its first service, and one behind each
abbrev pub hops_from : ℕ → ℕ → ℕ → List InstanceId
hops_from number place zero = hop_instance_of number place ∷ []
hops_from number place (suc more) = hop_instance_of number place ∷ hops_from number (place + 1) more

abbrev pub hops : ConfiguredUse → List InstanceId
hops u = hops_from u.number 0 (length u.services)

abbrev pub first_hop : ConfiguredUse → InstanceId
first_hop u = hop_instance_of u.number 0

abbrev pub last_hop : ConfiguredUse → InstanceId
last_hop u = hop_instance_of u.number (length u.services)

-- ---- the circuits of a use
-- what attaches one side of a service to the instance there
pub record Circuit : Type 0 where
  pub number : ℕ
  pub service : Service

abbrev pub left_circuits_from : ℕ → ℕ → List Service → List Circuit
left_circuits_from number place [] = []
left_circuits_from number place (s ∷ ss) =
    record { number = left_circuit_of number place; service = s } ∷ left_circuits_from number (place + 1) ss

abbrev pub right_circuits_from : ℕ → ℕ → List Service → List Circuit
right_circuits_from number place [] = []
right_circuits_from number place (s ∷ ss) =
    record { number = right_circuit_of number place; service = s } ∷ right_circuits_from number (place + 1) ss

-- the left and the right circuit of each service; services count from 1
abbrev pub left_circuits : ConfiguredUse → List Circuit
left_circuits u = left_circuits_from u.number 1 u.services

abbrev pub right_circuits : ConfiguredUse → List Circuit
right_circuits u = right_circuits_from u.number 1 u.services
