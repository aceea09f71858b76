-- Ties: what the configurations of a run agree on. A port number stays with the network that it first had, the number
-- of a chain's use with its first two networks, and networks that were related stay known as such. The name of a compute
-- node stays with its first address, and each address with its first name.
use Rattle.std.specs.Prelude.{◌≡◌, ◌⊎◌, ℕ, Bool, IsTrue, List, Option, Some}
use Rattle.std.specs.List.{Contains}
use Rattle.ov_types.specs.declared.numbers.InstanceId.{InstanceId}
use Rattle.ov_types.specs.declared.numbers.PortNo.{PortNo}
use Rattle.ov_types.specs.declared.prefix.Addr.{Addr}
use Rattle.config_types.specs.declared.config.Action.TheVariants.{Through}
use Rattle.config_types.specs.declared.config.Config.{Config}
use Rattle.config_types.specs.declared.config.End.TheVariants.{Named}
use Rattle.config_types.specs.declared.config.Network.{Network}
use Rattle.config_types.specs.declared.config.Port.{Port}
use Rattle.config_types.specs.declared.topology.Node.{Node}
use Rattle.config_types.specs.declared.topology.Topology.{Topology}
use Rattle.policy_rules.specs.Related.{all_rules}
use Rattle.policy_rules.specs.Standing.{AreRelated}
use Rattle.policy_rules.specs.declared.numbered.NumberedRule.{NumberedRule}

-- what ties answer: the network of a port number, the left and the right network of a use number, whether two networks
-- were related, the address of a compute node's name, and the name at a compute node's address
pub record Ties : Type 0 where
  pub port : PortNo → Option InstanceId
  pub chain_use : ℕ → Option (InstanceId × InstanceId)
  pub was_related : InstanceId → InstanceId → Bool
  pub address : List ℕ → Option Addr
  pub name : Addr → Option (List ℕ)

-- ---- what a configuration has
-- a port of this number, in a network of this number
pub record HasPort (c : Config) (number : PortNo) (network : InstanceId) : Type 0 where
  pub port : Port
  pub home : Network
  pub has_port : Contains c.ports port
  pub has_home : Contains c.networks home
  pub home_of : port.network ≡ home.name
  pub number_is : port.id ≡ number
  pub network_is : home.id ≡ network

-- a rule that leads through a chain by this use number, from one of these networks to the other. Whether they attach its
-- policy is not asked
pub record HasUse (c : Config) (number : ℕ) (pair : InstanceId × InstanceId) : Type 0 where
  pub rule : NumberedRule
  pub chain : List ℕ
  pub left : Network
  pub right : Network
  pub has_rule : Contains (all_rules c) rule
  pub has_left : Contains c.networks left
  pub has_right : Contains c.networks right
  pub leads : rule.rule.action ≡ Through chain number
  pub from : rule.rule.source ≡ Named left.name
  pub to : rule.rule.destination ≡ Named right.name
  pub left_is : left.id ≡ pair.0
  pub right_is : right.id ≡ pair.1

-- two networks of these numbers, which are related
pub record HasRelated (c : Config) (a b : InstanceId) : Type 0 where
  pub first : Network
  pub second : Network
  pub has_first : Contains c.networks first
  pub has_second : Contains c.networks second
  pub related : AreRelated c first second
  pub first_is : first.id ≡ a
  pub second_is : second.id ≡ b

-- a compute node of this name, at this address
pub record HasNode (t : Topology) (name : List ℕ) (address : Addr) : Type 0 where
  pub node : Node
  pub has_node : Contains t.nodes node
  pub name_is : node.name ≡ name
  pub address_is : node.address ≡ address

-- ---- ties and configurations
-- a configuration is as the ties have it: in its port numbers, its use numbers and its related networks
pub record IsTiedBy (t : Ties) (c : Config) : Type 0 where
  pub ports : (p : PortNo) (n : InstanceId) → HasPort c p n → t.port p ≡ Some n
  pub uses : (number : ℕ) (pair : InstanceId × InstanceId) → HasUse c number pair → t.chain_use number ≡ Some pair
  pub related : (a b : InstanceId) → HasRelated c a b → IsTrue (t.was_related a b)

-- a topology is as the ties have it: in the names and the addresses of its compute nodes
pub record AreNodesTied (t : Ties) (x : Topology) : Type 0 where
  pub addresses : (name : List ℕ) (address : Addr) → HasNode x name address → t.address name ≡ Some address
  pub names : (name : List ℕ) (address : Addr) → HasNode x name address → t.name address ≡ Some name

-- a port number with a tie is in the network of its tie, and a use number between the two of its
pub record BreaksNone (t : Ties) (c : Config) : Type 0 where
  pub ports : (p : PortNo) (m n : InstanceId) → t.port p ≡ Some m → HasPort c p n → m ≡ n
  pub uses : (number : ℕ) (m n : InstanceId × InstanceId) → t.chain_use number ≡ Some m → HasUse c number n → m ≡ n

-- a compute node whose name has a tie is at the address of its tie, and one at an address with a tie has its name
pub record NodesBreakNone (t : Ties) (x : Topology) : Type 0 where
  pub addresses : (name : List ℕ) (a b : Addr) → t.address name ≡ Some a → HasNode x name b → a ≡ b
  pub names : (address : Addr) (m n : List ℕ) → t.name address ≡ Some m → HasNode x n address → m ≡ n

-- all that the first ties have the second ones have too
pub record Grows (s t : Ties) : Type 0 where
  pub ports : (p : PortNo) (n : InstanceId) → s.port p ≡ Some n → t.port p ≡ Some n
  pub uses : (number : ℕ) (pair : InstanceId × InstanceId) → s.chain_use number ≡ Some pair
      → t.chain_use number ≡ Some pair
  pub related : (a b : InstanceId) → IsTrue (s.was_related a b) → IsTrue (t.was_related a b)
  pub addresses : (name : List ℕ) (address : Addr) → s.address name ≡ Some address → t.address name ≡ Some address
  pub names : (address : Addr) (name : List ℕ) → s.name address ≡ Some name → t.name address ≡ Some name

-- two networks are one, or were related
abbrev pub AreNear : Ties → InstanceId → InstanceId → Type 0
AreNear t a b = (a ≡ b) ⊎ IsTrue (t.was_related a b)
