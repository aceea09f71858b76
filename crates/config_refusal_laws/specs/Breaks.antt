-- What each refusal says of a configuration: how the objects that it names break its rule.
use Rattle.std.specs.Prelude.{◌≡◌, ◌⊎◌, ◌++◌, ◌<◌, ℕ, IsTrue, List, [], ◌∷◌, length, map, slice_get, Some}
use Rattle.std.specs.List.{Any, Contains}
use Rattle.std.specs.Option.{IsSomeAnd}
use Rattle.ov_types.specs.Prefix.{contains}
use Rattle.config_types.specs.declared.config.Action.{Action}
use Rattle.config_types.specs.declared.config.Action.TheVariants.{Through}
use Rattle.config_types.specs.declared.config.Config.{Config}
use Rattle.config_types.specs.declared.config.End.TheVariants as Ends
use Rattle.config_types.specs.declared.config.Network.{Network}
use Rattle.config_types.specs.declared.config.Port.{Port}
use Rattle.config_types.specs.declared.config.Rule.{Rule}
use Rattle.config_types.specs.declared.config.Service.{Service}
use Rattle.config_types.specs.declared.topology.Topology.{Topology}
use Rattle.chain_expand.specs.Expansion.{expansion}
use Rattle.chain_expand.specs.Leading.{Leads, IsLoopFree}
use Rattle.config_check.specs.declared.refusal.IdKind.{IdKind}
use Rattle.config_check.specs.declared.refusal.IdKind.TheVariants as Id
use Rattle.config_check.specs.declared.refusal.LimitKind.{LimitKind}
use Rattle.config_check.specs.declared.refusal.LimitKind.TheVariants as Counted
use Rattle.config_check.specs.declared.refusal.Refusal.{Refusal}
use Rattle.config_check.specs.declared.refusal.Refusal.TheVariants.{Limit, DuplicateName, DuplicateId, BadReference}
use Rattle.config_check.specs.declared.refusal.Refusal.TheVariants.{SubnetReserved, SubnetNested, AddressOutside}
use Rattle.config_check.specs.declared.refusal.Refusal.TheVariants.{AddressTaken, ChainNeedsNetworks}
use Rattle.config_check.specs.declared.refusal.Refusal.TheVariants.{ChainSameNetwork, ChainLoop, ChainTooLong}
use Rattle.config_check.specs.declared.refusal.Refusal.TheVariants.{ServiceTwice, SubnetOverlap}
use Rattle.config_check.specs.Rules.{circuit_addresses, controller_names, node_names, network_names, port_names}
use Rattle.config_check.specs.Rules.{policy_names, service_names, chain_names, network_named, use_numbers}
use Rattle.policy_rules.specs.Related.{all_rules}
use Rattle.config_check.specs.Sentences.{Overlap, IsAround}

-- two places of a list, one before the other, have these items
pub record StandsBefore {A : Type 0} (xs : List A) (first second : A) : Type 0 where
  pub earlier : ℕ
  pub later : ℕ
  pub in_order : earlier < later
  pub first_there : slice_get xs earlier ≡ Some first
  pub second_there : slice_get xs later ≡ Some second

-- two places of a list have one item
abbrev pub StandsTwice : {A : Type 0} → List A → A → Type 0
StandsTwice xs x = StandsBefore xs x x

-- there are more of a kind than its limit, or more in one object, or no compute node
abbrev pub IsOutsideLimits : Topology → Config → LimitKind → Type 0
IsOutsideLimits t c Counted.Controllers = 8 < length t.controllers
IsOutsideLimits t c Counted.Nodes = (length t.nodes < 1) ⊎ (64 < length t.nodes)
IsOutsideLimits t c Counted.Networks = 128 < length c.networks
IsOutsideLimits t c Counted.Ports = 1024 < length c.ports
IsOutsideLimits t c Counted.Policies = 128 < length c.policies
IsOutsideLimits t c Counted.Services = 128 < length c.services
IsOutsideLimits t c Counted.Chains = 128 < length c.chains
IsOutsideLimits t c Counted.Subnets = Any (λ n. 4 < length n.subnets) c.networks
IsOutsideLimits t c Counted.Attachments = Any (λ n. 4 < length n.policies) c.networks
IsOutsideLimits t c Counted.Rules = Any (λ p. 16 < length p.rules) c.policies
IsOutsideLimits t c Counted.Hops = Any (λ d. 64 < length d.hops) c.chains

-- the names of each namespace: nodes of both kinds share one, and so do services and chains
abbrev pub namespaces : Topology → Config → List (List (List ℕ))
namespaces t c =
    (controller_names t ++ node_names t) ∷ network_names c ∷ port_names c ∷ policy_names c
    ∷ (service_names c ++ chain_names c) ∷ []

-- the numbers of the objects of a kind
abbrev pub numbers_of : Topology → Config → IdKind → List ℕ
numbers_of t c Id.Address = map (λ n. n.address.0) t.controllers ++ map (λ n. n.address.0) t.nodes
numbers_of t c Id.Network = map (λ n. n.id.0) c.networks
numbers_of t c Id.Port = map (λ p. p.id.0) c.ports
numbers_of t c Id.Sequence = map (λ p. p.sequence) c.policies
numbers_of t c Id.Service = map (λ s. s.id.0) c.services
numbers_of t c Id.Use = use_numbers c

-- an action leads packets through a chain of this name
abbrev pub LeadsThrough : Action → List ℕ → Type 0
LeadsThrough action chain = (use_no : ℕ) × (action ≡ Through chain use_no)

-- a rule leads packets through some chain
abbrev pub IsChainRule : Rule → Type 0
IsChainRule r = (chain : List ℕ) × LeadsThrough r.action chain

-- an object refers to a name in a place where nothing of the kind has it
pub data IsDangling (t : Topology) (c : Config) (name : List ℕ) : Type 0 where
  controller : Any (λ n. Contains n.controllers name) t.nodes
      → ¬ Contains (controller_names t) name → IsDangling t c name
  policy : Any (λ n. Contains n.policies name) c.networks → ¬ Contains (policy_names c) name → IsDangling t c name
  network_of_port : Any (λ p. p.network ≡ name) c.ports → ¬ Contains (network_names c) name → IsDangling t c name
  node_of_port : Any (λ p. p.node ≡ name) c.ports → ¬ Contains (node_names t) name → IsDangling t c name
  source : Any (λ r. r.rule.source ≡ Ends.Named name) (all_rules c)
      → ¬ Contains (network_names c) name → IsDangling t c name
  destination : Any (λ r. r.rule.destination ≡ Ends.Named name) (all_rules c)
      → ¬ Contains (network_names c) name → IsDangling t c name
  chain_of_rule : Any (λ r. LeadsThrough r.rule.action name) (all_rules c)
      → ¬ Contains (chain_names c) name → IsDangling t c name
  node_of_service : Any (λ s. s.node ≡ name) c.services → ¬ Contains (node_names t) name → IsDangling t c name
  hop : Any (λ d. Contains d.hops name) c.chains
      → ¬ Contains (service_names c ++ chain_names c) name → IsDangling t c name

-- no subnet of a port's network holds its address
abbrev pub LiesOutside : Config → Port → Type 0
LiesOutside c p = IsSomeAnd (network_named c p.network) (λ n. ¬ Any (λ s. IsTrue (contains s p.address.0)) n.subnets)

-- two ports, in order, of one network have one address
pub record ShareAddress (c : Config) (first second : Port) : Type 0 where
  pub ports : StandsBefore c.ports first second
  pub network : first.network ≡ second.network
  pub address : first.address.0 ≡ second.address.0

-- an end of a rule is `any`
abbrev pub HasAny : Rule → Type 0
HasAny r = (r.source ≡ Ends.Any) ⊎ (r.destination ≡ Ends.Any)

-- both ends of a rule are one network
abbrev pub HasOneNetwork : Rule → Type 0
HasOneNetwork r = (network : List ℕ) × (r.source ≡ Ends.Named network) × (r.destination ≡ Ends.Named network)

-- two places of an expansion, in order, have services of one number
pub record ShareNumber (services : List Service) (first second : Service) : Type 0 where
  pub places : StandsBefore services first second
  pub number : first.id.0 ≡ second.id.0

-- two networks, in order, are each a third or related to it, and a subnet of the one overlaps a subnet of the other
pub record OverlapAround (c : Config) (n first second : Network) : Type 0 where
  pub networks : StandsBefore c.networks first second
  pub first_around : IsAround c n first
  pub second_around : IsAround c n second
  pub subnets : Any (λ p. Any (Overlap p) second.subnets) first.subnets

-- what a refusal names breaks its rule
abbrev pub Breaks : Topology → Config → Refusal → Type 0
Breaks t c (Limit what) = IsOutsideLimits t c what
Breaks t c (DuplicateName name) =
    Any (λ names. StandsTwice names name) (namespaces t c) ⊎ Any (λ n. StandsTwice n.controllers name) t.nodes
Breaks t c (DuplicateId what id) = StandsTwice (numbers_of t c what) id
Breaks t c (BadReference name) = IsDangling t c name
Breaks t c (SubnetReserved network prefix) =
    Any (λ n. (n.name ≡ network) × Contains n.subnets prefix × Overlap circuit_addresses prefix) c.networks
Breaks t c (SubnetNested network first second) =
    Any (λ n. (n.name ≡ network) × StandsBefore n.subnets first second × Overlap first second) c.networks
Breaks t c (AddressOutside port) = Any (λ p. (p.name ≡ port) × LiesOutside c p) c.ports
Breaks t c (AddressTaken first second) =
    (p : Port) × (q : Port) × (p.name ≡ first) × (q.name ≡ second) × ShareAddress c p q
Breaks t c (ChainNeedsNetworks rule) = Any (λ r. (r.number ≡ rule) × IsChainRule r.rule × HasAny r.rule) (all_rules c)
Breaks t c (ChainSameNetwork rule) =
    Any (λ r. (r.number ≡ rule) × IsChainRule r.rule × HasOneNetwork r.rule) (all_rules c)
Breaks t c (ChainLoop chain) = Any (λ d. d.name ≡ chain) c.chains × Leads c chain chain
Breaks t c (ChainTooLong chain) =
    Any (λ d. d.name ≡ chain) c.chains × IsLoopFree c chain × (15 < length (expansion c chain))
Breaks t c (ServiceTwice chain service) =
    Any (λ d. d.name ≡ chain) c.chains × IsLoopFree c chain × (s : Service) × (u : Service) × (u.name ≡ service)
    × ShareNumber (expansion c chain) s u
Breaks t c (SubnetOverlap first second) =
    Any (λ n. (a : Network) × (b : Network) × (a.name ≡ first) × (b.name ≡ second) × OverlapAround c n a b) c.networks
