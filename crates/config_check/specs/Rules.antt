-- The fourteen rules of valid configurations, each by the first object that breaks it, in order.
use Rattle.std.specs.Prelude.{ℕ, ◌==◌, ◌&&◌, ◌||◌, nat_le, nat_lt, nat_eq, Bool, true, false, not, List, [], ◌∷◌}
use Rattle.std.specs.Prelude.{◌++◌, length, map, filter, find, Option, Some, None, option_map, is_none, if◌then◌else◌}
use Rattle.std.specs.List.{list_any, list_all, filter_map}
use Rattle.std.specs.Option.{option_map_or}
use Rattle.ov_types.specs.Prefix.{Block, contains, is_inside}
use Rattle.config_types.specs.declared.config.Action.{Action}
use Rattle.config_types.specs.declared.config.Action.TheVariants.{Pass, Deny, Through}
use Rattle.config_types.specs.declared.config.Chain.{Chain}
use Rattle.config_types.specs.declared.config.Config.{Config}
use Rattle.config_types.specs.declared.config.End.{End}
use Rattle.config_types.specs.declared.config.End.TheVariants.{Any, Named}
use Rattle.config_types.specs.declared.config.Network.{Network}
use Rattle.config_types.specs.declared.config.Port.{Port}
use Rattle.config_types.specs.declared.config.Rule.{Rule}
use Rattle.config_types.specs.declared.config.Service.{Service}
use Rattle.config_types.specs.declared.topology.Node.{Node}
use Rattle.config_types.specs.declared.topology.Topology.{Topology}
use Rattle.ov_types.specs.First.{same_name, ◌<|>◌, first_of, first_meeting}
use Rattle.chain_expand.specs.Expansion.{loops, loop_of, expansion, same_number}
pub use Rattle.config_check.specs.Finding.{network_named}
use Rattle.policy_rules.specs.Related.{all_rules, are_related}
use Rattle.policy_rules.specs.declared.numbered.NumberedRule.{NumberedRule}
use Rattle.config_check.specs.declared.refusal.IdKind.{IdKind}
use Rattle.config_check.specs.declared.refusal.IdKind.TheVariants as Id
use Rattle.config_check.specs.declared.refusal.LimitKind.{LimitKind}
use Rattle.config_check.specs.declared.refusal.LimitKind.TheVariants as Counted
use Rattle.config_check.specs.declared.refusal.Refusal.{Refusal}
use Rattle.config_check.specs.declared.refusal.Refusal.TheVariants.{Limit, DuplicateName, DuplicateId, BadReference}
use Rattle.config_check.specs.declared.refusal.Refusal.TheVariants.{SubnetReserved, SubnetNested, AddressOutside}
use Rattle.config_check.specs.declared.refusal.Refusal.TheVariants.{AddressTaken, ChainNeedsNetworks}
use Rattle.config_check.specs.declared.refusal.Refusal.TheVariants.{ChainSameNetwork, ChainLoop, ChainTooLong}
use Rattle.config_check.specs.declared.refusal.Refusal.TheVariants.{ServiceTwice, SubnetOverlap}

-- 1. No count is outside its limits.

abbrev pub limit_unless : LimitKind → Bool → Option Refusal
limit_unless what true = None
limit_unless what false = Some (Limit what)

-- the first count of all there is that is outside its limits
abbrev pub broken_count : Topology → Config → Option Refusal
broken_count t c =
    limit_unless Counted.Controllers (nat_le (length t.controllers) 8)
    <|> (limit_unless Counted.Nodes (nat_le 1 (length t.nodes) && nat_le (length t.nodes) 64)
    <|> (limit_unless Counted.Networks (nat_le (length c.networks) 128)
    <|> (limit_unless Counted.Ports (nat_le (length c.ports) 1024)
    <|> (limit_unless Counted.Policies (nat_le (length c.policies) 128)
    <|> (limit_unless Counted.Services (nat_le (length c.services) 128)
    <|> limit_unless Counted.Chains (nat_le (length c.chains) 128))))))

-- the first count of what one object has that is outside its limits
abbrev pub broken_part : Config → Option Refusal
broken_part c =
    limit_unless Counted.Subnets (list_all (λ n. nat_le (length n.subnets) 4) c.networks)
    <|> (limit_unless Counted.Attachments (list_all (λ n. nat_le (length n.policies) 4) c.networks)
    <|> (limit_unless Counted.Rules (list_all (λ p. nat_le (length p.rules) 16) c.policies)
    <|> limit_unless Counted.Hops (list_all (λ d. nat_le (length d.hops) 64) c.chains)))

unfoldable pub broken_limit : Topology → Config → Option Refusal
broken_limit t c = broken_count t c <|> broken_part c

-- 2. No two names of one namespace are equal, and no compute node lists a control node twice.

abbrev pub controller_names : Topology → List (List ℕ)
controller_names t = map (λ n. n.name) t.controllers

abbrev pub node_names : Topology → List (List ℕ)
node_names t = map (λ n. n.name) t.nodes

abbrev pub network_names : Config → List (List ℕ)
network_names c = map (λ n. n.name) c.networks

abbrev pub port_names : Config → List (List ℕ)
port_names c = map (λ p. p.name) c.ports

abbrev pub policy_names : Config → List (List ℕ)
policy_names c = map (λ p. p.name) c.policies

abbrev pub service_names : Config → List (List ℕ)
service_names c = map (λ s. s.name) c.services

abbrev pub chain_names : Config → List (List ℕ)
chain_names c = map (λ d. d.name) c.chains

abbrev pub repeated_name : List (List ℕ) → Option Refusal
repeated_name names = option_map (λ m. DuplicateName m.1) (first_meeting same_name names)

abbrev pub repeated_controller : Node → Option Refusal
repeated_controller n = repeated_name n.controllers

unfoldable pub broken_name : Topology → Config → Option Refusal
broken_name t c =
    repeated_name (controller_names t ++ node_names t)
    <|> (repeated_name (network_names c)
    <|> (repeated_name (port_names c)
    <|> (repeated_name (policy_names c)
    <|> (repeated_name (service_names c ++ chain_names c)
    <|> first_of repeated_controller t.nodes))))

-- 3. No two numbers of one kind are equal.

abbrev pub repeated_id : IdKind → List ℕ → Option Refusal
repeated_id what ids = option_map (λ m. DuplicateId what m.1) (first_meeting nat_eq ids)

-- the use number of a chain rule
abbrev pub use_of : Action → Option ℕ
use_of Pass = None
use_of Deny = None
use_of (Through chain use_no) = Some use_no

-- the use numbers of all chain rules
abbrev pub use_numbers : Config → List ℕ
use_numbers c = filter_map (λ r. use_of r.rule.action) (all_rules c)

unfoldable pub broken_id : Topology → Config → Option Refusal
broken_id t c =
    repeated_id Id.Address (map (λ n. n.address.0) t.controllers ++ map (λ n. n.address.0) t.nodes)
    <|> (repeated_id Id.Network (map (λ n. n.id.0) c.networks)
    <|> (repeated_id Id.Port (map (λ p. p.id.0) c.ports)
    <|> (repeated_id Id.Sequence (map (λ p. p.sequence) c.policies)
    <|> (repeated_id Id.Service (map (λ s. s.id.0) c.services)
    <|> repeated_id Id.Use (use_numbers c)))))

-- 4. Each name that is referred to exists.

-- a reference to none of these names
abbrev pub missing : List (List ℕ) → List ℕ → Option Refusal
missing names name = if list_any (same_name name) names then None else Some (BadReference name)

abbrev pub missing_end : List (List ℕ) → End → Option Refusal
missing_end names Any = None
missing_end names (Named name) = missing names name

abbrev pub missing_chain : List (List ℕ) → Action → Option Refusal
missing_chain names Pass = None
missing_chain names Deny = None
missing_chain names (Through chain use_no) = missing names chain

abbrev pub missing_in_node : List (List ℕ) → Node → Option Refusal
missing_in_node controllers n = first_of (missing controllers) n.controllers

abbrev pub missing_in_network : List (List ℕ) → Network → Option Refusal
missing_in_network policies n = first_of (missing policies) n.policies

abbrev pub missing_in_port : List (List ℕ) → List (List ℕ) → Port → Option Refusal
missing_in_port networks nodes p = missing networks p.network <|> missing nodes p.node

abbrev pub missing_in_rule : List (List ℕ) → List (List ℕ) → NumberedRule → Option Refusal
missing_in_rule networks chains r =
    missing_end networks r.rule.source
    <|> (missing_end networks r.rule.destination <|> missing_chain chains r.rule.action)

abbrev pub missing_in_service : List (List ℕ) → Service → Option Refusal
missing_in_service nodes s = missing nodes s.node

abbrev pub missing_in_chain : List (List ℕ) → Chain → Option Refusal
missing_in_chain services_and_chains d = first_of (missing services_and_chains) d.hops

unfoldable pub broken_reference : Topology → Config → Option Refusal
broken_reference t c =
    first_of (missing_in_node (controller_names t)) t.nodes
    <|> (first_of (missing_in_network (policy_names c)) c.networks
    <|> (first_of (missing_in_port (network_names c) (node_names t)) c.ports
    <|> (first_of (missing_in_rule (network_names c) (chain_names c)) (all_rules c)
    <|> (first_of (missing_in_service (node_names t)) c.services
    <|> first_of (missing_in_chain (service_names c ++ chain_names c)) c.chains))))

-- 5. No subnet overlaps 250.0.0.0/15, the addresses of circuits.

-- one of two prefixes contains the other
abbrev pub overlap : Block → Block → Bool
overlap p q = is_inside p q || is_inside q p

abbrev pub circuit_addresses : Block
circuit_addresses = record { addr = 0xfa00_0000; len = 15 }

abbrev pub reserved_in : Network → Option Refusal
reserved_in n = option_map (λ p. SubnetReserved n.name p) (find (overlap circuit_addresses) n.subnets)

unfoldable pub broken_reserved : Config → Option Refusal
broken_reserved c = first_of reserved_in c.networks

-- 6. No two subnets of one network overlap.

abbrev pub nested_in : Network → Option Refusal
nested_in n = option_map (λ m. SubnetNested n.name m.0 m.1) (first_meeting overlap n.subnets)

unfoldable pub broken_nested : Config → Option Refusal
broken_nested c = first_of nested_in c.networks

-- 7. A port's address is in a subnet of its network.

-- an address lies in a subnet of a network
abbrev pub holds_address : Network → ℕ → Bool
holds_address n a = list_any (λ p. contains p a) n.subnets

-- a network's port is outside of it, where there is that network
abbrev pub is_outside : Config → Port → Bool
is_outside c p = option_map_or (λ n. not (holds_address n p.address.0)) (network_named c p.network) false

unfoldable pub broken_outside : Config → Option Refusal
broken_outside c = option_map (λ p. AddressOutside p.name) (find (is_outside c) c.ports)

-- 8. No two ports of one network have one address.

abbrev pub share_address : Port → Port → Bool
share_address p q = same_name p.network q.network && (p.address.0 == q.address.0)

unfoldable pub broken_taken : Config → Option Refusal
broken_taken c = option_map (λ m. AddressTaken m.0.name m.1.name) (first_meeting share_address c.ports)

-- 9. A chain rule names two networks.

abbrev pub is_chain_rule : Action → Bool
is_chain_rule Pass = false
is_chain_rule Deny = false
is_chain_rule (Through chain use_no) = true

abbrev pub is_any : End → Bool
is_any Any = true
is_any (Named name) = false

-- a chain rule has `any` as an end
abbrev pub lacks_network : Rule → Bool
lacks_network r = is_chain_rule r.action && (is_any r.source || is_any r.destination)

unfoldable pub broken_needs : List NumberedRule → Option Refusal
broken_needs rules = option_map (λ r. ChainNeedsNetworks r.number) (find (λ r. lacks_network r.rule) rules)

-- 10. They differ.

abbrev pub same_end : End → End → Bool
same_end (Named a) (Named b) = same_name a b
same_end _ _ = false

-- a chain rule names one network twice
abbrev pub turns_back : Rule → Bool
turns_back r = is_chain_rule r.action && same_end r.source r.destination

unfoldable pub broken_same : List NumberedRule → Option Refusal
broken_same rules = option_map (λ r. ChainSameNetwork r.number) (find (λ r. turns_back r.rule) rules)

-- 11. No chain leads back to itself.

unfoldable pub broken_loop : Config → Option Refusal
broken_loop c = option_map (λ d. ChainLoop d.name) (find (λ d. loops c d.name) c.chains)

-- 12. No expansion has more than 15 services.

abbrev pub is_too_long : Config → Chain → Bool
is_too_long c d = is_none (loop_of c d.name) && nat_lt 15 (length (expansion c d.name))

unfoldable pub broken_long : Config → Option Refusal
broken_long c = option_map (λ d. ChainTooLong d.name) (find (is_too_long c) c.chains)

-- 13. No expansion has a service twice.

abbrev pub twice_in : Config → Chain → Option Refusal
twice_in c d =
    if is_none (loop_of c d.name)
    then option_map (λ m. ServiceTwice d.name m.1.name) (first_meeting same_number (expansion c d.name)) else None

unfoldable pub broken_twice : Config → Option Refusal
broken_twice c = first_of (twice_in c) c.chains

-- 14. Among a network and all that are related to it no two have overlapping subnets.

-- a network, and those related to it, in the document's order
abbrev pub group_of : Config → Network → List Network
group_of c n = filter (λ m. same_name m.name n.name || are_related c n m) c.networks

abbrev pub share_addresses : Network → Network → Bool
share_addresses a b = list_any (λ p. list_any (overlap p) b.subnets) a.subnets

-- the first two of a list that share addresses, by the first and then by the second
abbrev pub overlapping : List Network → Option Refusal
overlapping [] = None
overlapping (a ∷ bs) = option_map (λ b. SubnetOverlap a.name b.name) (find (share_addresses a) bs) <|> overlapping bs

abbrev pub overlapping_around : Config → Network → Option Refusal
overlapping_around c n = overlapping (group_of c n)

unfoldable pub broken_overlap : Config → Option Refusal
broken_overlap c = first_of (overlapping_around c) c.networks

-- rules 5 to 8, of subnets and ports
abbrev pub broken_place : Config → Option Refusal
broken_place c = broken_reserved c <|> (broken_nested c <|> (broken_outside c <|> broken_taken c))

-- rules 9 and 10, of chain rules
abbrev pub broken_use : List NumberedRule → Option Refusal
broken_use rules = broken_needs rules <|> broken_same rules

-- rules 11 to 13, of chains
abbrev pub broken_chain : Config → Option Refusal
broken_chain c = broken_loop c <|> (broken_long c <|> broken_twice c)

-- the first broken rule, in order
unfoldable pub first_broken : Topology → Config → Option Refusal
first_broken t c =
    broken_limit t c <|> (broken_name t c <|> (broken_id t c <|> (broken_reference t c
    <|> (broken_place c <|> (broken_use (all_rules c) <|> (broken_chain c <|> broken_overlap c))))))
