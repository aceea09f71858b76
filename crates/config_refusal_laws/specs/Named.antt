-- Which objects a refusal names: the first, in the document's order, that break its rule.
use Rattle.std.specs.Prelude.{◌≡◌, ◌⊎◌, ◌<◌, ◌++◌, ℕ, List, [], ◌∷◌, map, flat_map, slice_get, Some, length}
use Rattle.std.specs.List.{All, Any, Contains}
use Rattle.config_types.specs.declared.config.Action.{Action}
use Rattle.config_types.specs.declared.config.Action.TheVariants.{Pass, Deny, Through}
use Rattle.config_types.specs.declared.config.Chain.{Chain}
use Rattle.config_types.specs.declared.config.Config.{Config}
use Rattle.config_types.specs.declared.config.End.{End}
use Rattle.config_types.specs.declared.config.End.TheVariants as Ends
use Rattle.config_types.specs.declared.config.Network.{Network}
use Rattle.config_types.specs.declared.config.Port.{Port}
use Rattle.config_types.specs.declared.config.Service.{Service}
use Rattle.config_types.specs.declared.topology.Node.{Node}
use Rattle.config_types.specs.declared.topology.Topology.{Topology}
use Rattle.chain_expand.specs.Expansion.{expansion}
use Rattle.chain_expand.specs.Leading.{Leads}
use Rattle.config_check.specs.declared.refusal.IdKind.{IdKind}
use Rattle.config_check.specs.declared.refusal.IdKind.TheVariants as Id
use Rattle.config_check.specs.declared.refusal.LimitKind.{LimitKind}
use Rattle.config_check.specs.declared.refusal.LimitKind.TheVariants as Counted
use Rattle.config_check.specs.declared.refusal.Refusal.{Refusal}
use Rattle.config_check.specs.declared.refusal.Refusal.TheVariants.{Limit, DuplicateName, DuplicateId, BadReference}
use Rattle.config_check.specs.declared.refusal.Refusal.TheVariants.{SubnetReserved, SubnetNested, AddressOutside}
use Rattle.config_check.specs.declared.refusal.Refusal.TheVariants.{AddressTaken, ChainNeedsNetworks}
use Rattle.config_check.specs.declared.refusal.Refusal.TheVariants.{ChainSameNetwork, ChainLoop, ChainTooLong}
use Rattle.config_check.specs.declared.refusal.Refusal.TheVariants.{ServiceTwice, SubnetOverlap}
use Rattle.policy_rules.specs.declared.numbered.NumberedRule.{NumberedRule}
use Rattle.policy_rules.specs.Related.{all_rules}
use Rattle.config_check.specs.Rules.{circuit_addresses, controller_names, node_names, network_names}
use Rattle.config_check.specs.Rules.{policy_names, service_names, chain_names}
use Rattle.config_check.specs.Sentences.{Overlap, IsAround}
use Rattle.config_refusal_laws.specs.Breaks.{IsChainRule, HasAny, HasOneNetwork, LiesOutside, StandsBefore, namespaces}
use Rattle.config_refusal_laws.specs.Breaks.{numbers_of, IsOutsideLimits}

-- an item of a list has a fault, and none before it has
pub record IsFirst {A : Type 0} (HasFault : A → Type 0) (xs : List A) (x : A) : Type 0 where
  pub place : ℕ
  pub there : slice_get xs place ≡ Some x
  pub at_fault : HasFault x
  pub none_before : (k : ℕ) (y : A) → k < place → slice_get xs k ≡ Some y → ¬ HasFault y

-- two items of a list meet: the later is the first that meets one before it, and the earlier the first that it meets
pub record IsFirstPair {A : Type 0} (Meet : A → A → Type 0) (xs : List A) (first second : A) : Type 0 where
  pub earlier : ℕ
  pub later : ℕ
  pub in_order : earlier < later
  pub first_there : slice_get xs earlier ≡ Some first
  pub second_there : slice_get xs later ≡ Some second
  pub meet : Meet first second
  pub none_earlier : (k : ℕ) (y : A) → k < earlier → slice_get xs k ≡ Some y → ¬ Meet y second
  pub none_before : (i j : ℕ) (x y : A) → i < j → j < later → slice_get xs i ≡ Some x → slice_get xs j ≡ Some y
      → ¬ Meet x y

-- two items of a list meet: the earlier is the first that meets a later one, and the later the first that it meets
pub record IsFirstByFirst {A : Type 0} (Meet : A → A → Type 0) (xs : List A) (first second : A) : Type 0 where
  pub earlier : ℕ
  pub later : ℕ
  pub in_order : earlier < later
  pub first_there : slice_get xs earlier ≡ Some first
  pub second_there : slice_get xs later ≡ Some second
  pub meet : Meet first second
  pub none_earlier : (i j : ℕ) (x y : A) → i < earlier → i < j → slice_get xs i ≡ Some x → slice_get xs j ≡ Some y
      → ¬ Meet x y
  pub none_between : (j : ℕ) (y : A) → earlier < j → j < later → slice_get xs j ≡ Some y → ¬ Meet first y

-- a list has two items, in order, that meet
abbrev pub HasPair : {A : Type 0} → (A → A → Type 0) → List A → Type 0
HasPair {A} Meet xs = (x : A) × (y : A) × StandsBefore xs x y × Meet x y

abbrev pub IsReserved : Network → Type 0
IsReserved n = Any (Overlap circuit_addresses) n.subnets

abbrev pub SharesAddress : Port → Port → Type 0
SharesAddress p q = (p.network ≡ q.network) × (p.address.0 ≡ q.address.0)

abbrev pub LacksNetwork : NumberedRule → Type 0
LacksNetwork r = IsChainRule r.rule × HasAny r.rule

abbrev pub TurnsBack : NumberedRule → Type 0
TurnsBack r = IsChainRule r.rule × HasOneNetwork r.rule

abbrev pub SharesNumber : Service → Service → Type 0
SharesNumber s u = s.id.0 ≡ u.id.0

abbrev pub IsSame : {A : Type 0} → A → A → Type 0
IsSame a b = a ≡ b

-- what numbers name, in the order in which they are compared
abbrev pub id_kinds : List IdKind
id_kinds = Id.Address ∷ Id.Network ∷ Id.Port ∷ Id.Sequence ∷ Id.Service ∷ Id.Use ∷ []

-- two networks are each a third or related to it, and a subnet of the one overlaps a subnet of the other
abbrev pub OverlapsAround : Config → Network → Network → Network → Type 0
OverlapsAround c n a b = IsAround c n a × IsAround c n b × Any (λ p. Any (Overlap p) b.subnets) a.subnets

-- what is counted, in the order in which it is
abbrev pub limit_kinds : List LimitKind
limit_kinds =
    Counted.Controllers ∷ Counted.Nodes ∷ Counted.Networks ∷ Counted.Ports ∷ Counted.Policies ∷ Counted.Services
    ∷ Counted.Chains ∷ Counted.Subnets ∷ Counted.Attachments ∷ Counted.Rules ∷ Counted.Hops ∷ []

-- a name, with the names that it may be
abbrev pub Reference : Type 0
Reference = List (List ℕ) × List ℕ

-- nothing has the name
abbrev pub Dangles : Reference → Type 0
Dangles r = ¬ Contains r.0 r.1

abbrev pub end_references : List (List ℕ) → End → List Reference
end_references names Ends.Any = []
end_references names (Ends.Named name) = (names, name) ∷ []

abbrev pub action_references : List (List ℕ) → Action → List Reference
action_references names Pass = []
action_references names Deny = []
action_references names (Through chain use_no) = (names, chain) ∷ []

-- the references of each object
abbrev pub node_references : Topology → Node → List Reference
node_references t n = map (λ name. (controller_names t, name)) n.controllers

abbrev pub network_references : Config → Network → List Reference
network_references c n = map (λ name. (policy_names c, name)) n.policies

abbrev pub port_references : Topology → Config → Port → List Reference
port_references t c p = (network_names c, p.network) ∷ (node_names t, p.node) ∷ []

abbrev pub rule_references : Config → NumberedRule → List Reference
rule_references c r =
    end_references (network_names c) r.rule.source
    ++ (end_references (network_names c) r.rule.destination ++ action_references (chain_names c) r.rule.action)

abbrev pub chain_references : Config → Chain → List Reference
chain_references c d = map (λ name. (service_names c ++ chain_names c, name)) d.hops

-- all references, in the order in which they are looked up
abbrev pub references : Topology → Config → List Reference
references t c =
    flat_map (node_references t) t.nodes
    ++ (flat_map (network_references c) c.networks
    ++ (flat_map (port_references t c) c.ports
    ++ (flat_map (rule_references c) (all_rules c)
    ++ (map (λ s. (node_names t, s.node)) c.services
    ++ flat_map (chain_references c) c.chains))))

-- what a refusal names is the first that breaks its rule
abbrev pub NamesFirst : Topology → Config → Refusal → Type 0
NamesFirst t c (SubnetReserved network prefix) =
    (n : Network) × (n.name ≡ network) × IsFirst IsReserved c.networks n
    × IsFirst (Overlap circuit_addresses) n.subnets prefix
NamesFirst t c (SubnetNested network first second) =
    (n : Network) × (n.name ≡ network) × IsFirst (λ m. HasPair Overlap m.subnets) c.networks n
    × IsFirstPair Overlap n.subnets first second
NamesFirst t c (AddressOutside port) = (p : Port) × (p.name ≡ port) × IsFirst (LiesOutside c) c.ports p
NamesFirst t c (AddressTaken first second) =
    (p : Port) × (q : Port) × (p.name ≡ first) × (q.name ≡ second) × IsFirstPair SharesAddress c.ports p q
NamesFirst t c (ChainNeedsNetworks rule) = (r : NumberedRule) × (r.number ≡ rule) × IsFirst LacksNetwork (all_rules c) r
NamesFirst t c (ChainSameNetwork rule) = (r : NumberedRule) × (r.number ≡ rule) × IsFirst TurnsBack (all_rules c) r
NamesFirst t c (ChainLoop chain) = (d : Chain) × (d.name ≡ chain) × IsFirst (λ x. Leads c x.name x.name) c.chains d
NamesFirst t c (ChainTooLong chain) =
    (d : Chain) × (d.name ≡ chain) × IsFirst (λ x. 15 < length (expansion c x.name)) c.chains d
NamesFirst t c (ServiceTwice chain service) =
    (d : Chain) × (s : Service) × (u : Service) × (d.name ≡ chain) × (u.name ≡ service)
    × IsFirst (λ x. HasPair SharesNumber (expansion c x.name)) c.chains d
    × IsFirstPair SharesNumber (expansion c d.name) s u
NamesFirst t c (SubnetOverlap first second) =
    (n : Network) × (a : Network) × (b : Network) × (a.name ≡ first) × (b.name ≡ second)
    × IsFirst (λ m. HasPair (OverlapsAround c m) c.networks) c.networks n
    × IsFirstByFirst (OverlapsAround c n) c.networks a b
NamesFirst t c (DuplicateId what id) =
    IsFirst (λ kind. HasPair IsSame (numbers_of t c kind)) id_kinds what
    × IsFirstPair IsSame (numbers_of t c what) id id
NamesFirst t c (DuplicateName name) =
    ((names : List (List ℕ)) × IsFirst (HasPair IsSame) (namespaces t c) names × IsFirstPair IsSame names name name)
    ⊎ (All (λ names. ¬ HasPair IsSame names) (namespaces t c)
    × (n : Node) × IsFirst (λ m. HasPair IsSame m.controllers) t.nodes n
    × IsFirstPair IsSame n.controllers name name)
NamesFirst t c (BadReference name) = (names : List (List ℕ)) × IsFirst Dangles (references t c) (names, name)
NamesFirst t c (Limit what) = IsFirst (IsOutsideLimits t c) limit_kinds what
