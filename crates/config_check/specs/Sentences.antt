-- What it is to be valid, as sentences on objects and on pairs of objects.
use Rattle.std.specs.Prelude.{◌≡◌, ◌≢◌, ℕ, ◌+◌, ◌*◌, ◌≤◌, ◌⊎◌, ◌++◌, true, false, IsTrue, List, length, map, IfSome}
use Rattle.std.specs.List.{All, AllPairs, Any, Contains}
use Rattle.ov_types.specs.Prefix.{Block, contains}
use Rattle.config_types.specs.declared.config.Action.{Action}
use Rattle.config_types.specs.declared.config.Action.TheVariants as Does
use Rattle.config_types.specs.declared.config.Config.{Config}
use Rattle.config_types.specs.declared.config.End.{End}
use Rattle.config_types.specs.declared.config.End.TheVariants as Ends
use Rattle.config_types.specs.declared.config.Network.{Network}
use Rattle.config_types.specs.declared.config.Rule.{Rule}
use Rattle.config_types.specs.declared.topology.Topology.{Topology}
use Rattle.chain_expand.specs.Expansion.{loops, expansion}
use Rattle.policy_rules.specs.Related.{are_related, all_rules}
use Rattle.config_check.specs.Rules.{circuit_addresses, controller_names, node_names, network_names, port_names}
use Rattle.config_check.specs.Rules.{policy_names, service_names, chain_names, network_named, use_numbers}

-- no two of a list are equal
abbrev pub AreDistinct : {A : Type 0} → List A → Type 0
AreDistinct xs = AllPairs (λ a b. a ≢ b) xs

-- no count is outside its limits
pub record KeepsLimits (t : Topology) (c : Config) : Type 0 where
  pub controllers : length t.controllers ≤ 8
  pub some_nodes : 1 ≤ length t.nodes
  pub nodes : length t.nodes ≤ 64
  pub networks : length c.networks ≤ 128
  pub ports : length c.ports ≤ 1024
  pub policies : length c.policies ≤ 128
  pub services : length c.services ≤ 128
  pub chains : length c.chains ≤ 128
  pub subnets : All (λ n. length n.subnets ≤ 4) c.networks
  pub attachments : All (λ n. length n.policies ≤ 4) c.networks
  pub rules : All (λ p. length p.rules ≤ 16) c.policies
  pub hops : All (λ d. length d.hops ≤ 64) c.chains

-- names are distinct in each namespace, and so are the control nodes that a compute node lists
pub record HasDistinctNames (t : Topology) (c : Config) : Type 0 where
  pub nodes : AreDistinct (controller_names t ++ node_names t)
  pub networks : AreDistinct (network_names c)
  pub ports : AreDistinct (port_names c)
  pub policies : AreDistinct (policy_names c)
  pub hops : AreDistinct (service_names c ++ chain_names c)
  pub controllers : All (λ n. AreDistinct n.controllers) t.nodes

-- numbers of one kind are distinct
pub record HasDistinctNumbers (t : Topology) (c : Config) : Type 0 where
  pub addresses : AreDistinct (map (λ n. n.address.0) t.controllers ++ map (λ n. n.address.0) t.nodes)
  pub networks : AreDistinct (map (λ n. n.id.0) c.networks)
  pub ports : AreDistinct (map (λ p. p.id.0) c.ports)
  pub sequences : AreDistinct (map (λ p. p.sequence) c.policies)
  pub services : AreDistinct (map (λ s. s.id.0) c.services)
  pub uses : AreDistinct (use_numbers c)

-- an end of a rule is any network, or a network of these names
abbrev pub EndExists : List (List ℕ) → End → Type 0
EndExists names Ends.Any = Unit {0}
EndExists names (Ends.Named name) = Contains names name

-- what an action leads through is a chain of these names
abbrev pub ChainExists : List (List ℕ) → Action → Type 0
ChainExists names Does.Pass = Unit {0}
ChainExists names Does.Deny = Unit {0}
ChainExists names (Does.Through chain use_no) = Contains names chain

-- each name that is referred to exists
pub record HasReferents (t : Topology) (c : Config) : Type 0 where
  pub controllers : All (λ n. All (Contains (controller_names t)) n.controllers) t.nodes
  pub policies : All (λ n. All (Contains (policy_names c)) n.policies) c.networks
  pub ports : All (λ p. Contains (network_names c) p.network × Contains (node_names t) p.node) c.ports
  pub rules : All (λ r. EndExists (network_names c) r.rule.source × EndExists (network_names c) r.rule.destination
      × ChainExists (chain_names c) r.rule.action) (all_rules c)
  pub services : All (λ s. Contains (node_names t) s.node) c.services
  pub hops : All (λ d. All (Contains (service_names c ++ chain_names c)) d.hops) c.chains

-- each address of a block is in another
abbrev pub IsWithin : Block → Block → Type 0
IsWithin p q = (a : ℕ) → IsTrue (contains p a) → IsTrue (contains q a)

-- one of two blocks contains the other
abbrev pub Overlap : Block → Block → Type 0
Overlap p q = IsWithin p q ⊎ IsWithin q p

-- the address that is written as four numbers joined by points
abbrev pub dotted : ℕ → ℕ → ℕ → ℕ → ℕ
dotted a b c d = ((a * 256 + b) * 256 + c) * 256 + d

-- no subnet overlaps the addresses of circuits
abbrev pub ReservesCircuits : Config → Type 0
ReservesCircuits c = All (λ n. All (λ p. ¬ Overlap circuit_addresses p) n.subnets) c.networks

-- no two subnets of a network overlap
abbrev pub HasFlatSubnets : Config → Type 0
HasFlatSubnets c = All (λ n. AllPairs (λ p q. ¬ Overlap p q) n.subnets) c.networks

-- a port's address is in a subnet of its network
abbrev pub HoldsAddresses : Config → Type 0
HoldsAddresses c =
    All (λ p. IfSome (network_named c p.network) (λ n. Any (λ s. contains s p.address.0 ≡ true) n.subnets)) c.ports

-- no two ports of a network have one address
abbrev pub HasDistinctAddresses : Config → Type 0
HasDistinctAddresses c = AllPairs (λ p q. ¬ ((p.network ≡ q.network) × (p.address.0 ≡ q.address.0))) c.ports

-- neither end of a chain rule is `any`
abbrev pub NamesEnds : Rule → Type 0
NamesEnds r =
    (chain : List ℕ) (use_no : ℕ) → r.action ≡ Does.Through chain use_no
    → (r.source ≢ Ends.Any) × (r.destination ≢ Ends.Any)

-- a chain rule names no network twice
abbrev pub NamesTwo : Rule → Type 0
NamesTwo r =
    (chain name : List ℕ) (use_no : ℕ) → r.action ≡ Does.Through chain use_no
    → r.source ≡ Ends.Named name → r.destination ≢ Ends.Named name

-- a network is another, or related to it
abbrev pub IsAround : Config → Network → Network → Type 0
IsAround c n a = (a.name ≡ n.name) ⊎ IsTrue (are_related c n a)

-- no subnet of the one network overlaps one of the other
abbrev pub AreApart : Network → Network → Type 0
AreApart a b = All (λ p. All (λ q. ¬ Overlap p q) b.subnets) a.subnets

-- the fourteen sentences
pub record IsValid (t : Topology) (c : Config) : Type 0 where
  pub limits : KeepsLimits t c
  pub names : HasDistinctNames t c
  pub numbers : HasDistinctNumbers t c
  pub references : HasReferents t c
  pub reserved : ReservesCircuits c
  pub flat : HasFlatSubnets c
  pub inside : HoldsAddresses c
  pub addresses : HasDistinctAddresses c
  pub ends : All (λ r. NamesEnds r.rule) (all_rules c)
  pub two : All (λ r. NamesTwo r.rule) (all_rules c)
  pub straight : All (λ d. loops c d.name ≡ false) c.chains
  pub short : All (λ d. length (expansion c d.name) ≤ 15) c.chains
  pub once : All (λ d. AllPairs (λ s u. s.id.0 ≢ u.id.0) (expansion c d.name)) c.chains
  pub apart : All (λ n. AllPairs (λ a b. IsAround c n a → IsAround c n b → AreApart a b) c.networks) c.networks
