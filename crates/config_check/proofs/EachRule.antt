-- For each rule: it is kept exactly where its sentence holds.
use Rattle.std.proofs.Common.{◌≡◌, ◌≢◌, ◌↔◌, ◌≤◌, ◌++◌, leb, ltb, ℕ, Bool, true, false, List, Option, None, option_map, IfSome, map, find, length, refl, sym, ◌∙◌, arith}
use Rattle.std.specs.List.{All, AllPairs, Any, Contains, list_all}
use Rattle.std.proofs.lemmas.Bool.{and_parts, leb-true, le-leb, le-ltb}
use Rattle.std.proofs.lemmas.Bool.Decides.{nat_tests}
use Rattle.ov_types.specs.Prefix.{Block, contains}
use Rattle.config_types.specs.declared.config.Chain.{Chain}
use Rattle.config_types.specs.declared.config.Config.{Config}
use Rattle.config_types.specs.declared.config.Network.{Network}
use Rattle.config_types.specs.declared.config.Policy.{Policy}
use Rattle.config_types.specs.declared.config.Port.{Port}
use Rattle.config_types.specs.declared.config.Service.{Service}
use Rattle.config_types.specs.declared.topology.Node.{Node}
use Rattle.config_types.specs.declared.topology.Topology.{Topology}
use Rattle.ov_types.specs.First.{◌<|>◌, first_of, first_meeting}
use Rattle.chain_expand.specs.Expansion.{loops, expansion, same_number}
use Rattle.config_check.specs.declared.refusal.IdKind.TheVariants as Id
use Rattle.config_check.specs.declared.refusal.Refusal.{Refusal}
use Rattle.config_check.specs.declared.refusal.Refusal.TheVariants.{SubnetReserved, SubnetNested, AddressOutside, AddressTaken, ChainNeedsNetworks, ChainSameNetwork, ChainLoop, ChainTooLong, ServiceTwice}
use Rattle.policy_rules.specs.Related.{all_rules}
use Rattle.policy_rules.specs.declared.numbered.NumberedRule.{NumberedRule}
use Rattle.config_check.specs.Rules.{broken_count, broken_part, broken_limit, repeated_name, repeated_controller, broken_name, repeated_id, use_numbers, broken_id, controller_names, node_names, network_names, port_names, policy_names, service_names, chain_names, missing, missing_end, missing_chain, missing_in_node, missing_in_network, missing_in_port, missing_in_rule, missing_in_service, missing_in_chain, broken_reference, overlap, circuit_addresses, reserved_in, broken_reserved, nested_in, broken_nested, network_named, is_outside, broken_outside, share_address, broken_taken, lacks_network, broken_needs, turns_back, broken_same, broken_loop, is_too_long, broken_long, twice_in, broken_twice, overlapping_around, broken_overlap}
use Rattle.config_check.specs.Sentences.{AreDistinct, KeepsLimits, HasDistinctNames, HasDistinctNumbers, HasReferents, EndExists, ChainExists, Overlap, ReservesCircuits, HasFlatSubnets, HoldsAddresses, HasDistinctAddresses, NamesEnds, NamesTwo, IsAround, AreApart}
use Rattle.config_check.proofs.Few.{all_kept, each_kept, counts_kept, parts_kept}
use Rattle.config_check.proofs.Iffs.{iff_then, iff_both, all_iff, pairs_iff, list_all_true, six_none}
use Rattle.ov_types.proofs.FirstLemmas.{both_none, mapped_none, find_none, first_of_none, first_meeting_none}
use Rattle.config_check.proofs.Meanings.{distinct_names, distinct_ids, exists_iff, end_exists_iff, chain_exists_iff, apart_iff, inside_iff, shares_iff, ends_iff, names_two_iff, around_iff}
use Rattle.config_check.proofs.Straight.{no_loop, too_long_is}

-- 1

few_iff : {A : Type 0} (size : A → ℕ) (most : ℕ) (xs : List A) → (list_all (λ x. leb (size x) most) xs ≡ true) ↔ All (λ x. size x ≤ most) xs
few_iff size most xs =
    iff_then (list_all_true (λ x. leb (size x) most) xs)
    (all_iff (λ x. leb (size x) most ≡ true) (λ x. size x ≤ most) (λ x. (leb-true (size x) most, le-leb (size x) most)) xs)

limits_kept : (t : Topology) (c : Config) → broken_limit t c ≡ None → KeepsLimits t c
limits_kept t c h =
    let a = all_kept _ _ _ _ _ _ _ (counts_kept t c h) in
    let e = each_kept _ _ _ _ (parts_kept t c h) in
    record {
      controllers = leb-true _ _ a.controllers_kept;
      some_nodes = leb-true _ _ (and_parts (leb 1 (length t.nodes)) (leb (length t.nodes) 64) a.nodes_kept).0;
      nodes = leb-true _ _ (and_parts (leb 1 (length t.nodes)) (leb (length t.nodes) 64) a.nodes_kept).1;
      networks = leb-true _ _ a.networks_kept;
      ports = leb-true _ _ a.ports_kept;
      policies = leb-true _ _ a.policies_kept;
      services = leb-true _ _ a.services_kept;
      chains = leb-true _ _ a.chains_kept;
      subnets = (few_iff (λ (n : Network). length n.subnets) 4 c.networks).0 e.subnets_kept;
      attachments = (few_iff (λ (n : Network). length n.policies) 4 c.networks).0 e.attachments_kept;
      rules = (few_iff (λ (p : Policy). length p.rules) 16 c.policies).0 e.rules_kept;
      hops = (few_iff (λ (d : Chain). length d.hops) 64 c.chains).0 e.hops_kept;
    }

limits_keep : (t : Topology) (c : Config) → KeepsLimits t c → broken_limit t c ≡ None
unfolding broken_limit
limits_keep t c k =
    let e1 : leb (length t.controllers) 8 ≡ true = le-leb _ _ k.controllers in
    let e2 : leb (length t.nodes) 64 ≡ true = le-leb _ _ k.nodes in
    let e0 : leb 1 (length t.nodes) ≡ true = le-leb _ _ k.some_nodes in
    let e3 : leb (length c.networks) 128 ≡ true = le-leb _ _ k.networks in
    let e4 : leb (length c.ports) 1024 ≡ true = le-leb _ _ k.ports in
    let e5 : leb (length c.policies) 128 ≡ true = le-leb _ _ k.policies in
    let e6 : leb (length c.services) 128 ≡ true = le-leb _ _ k.services in
    let e7 : leb (length c.chains) 128 ≡ true = le-leb _ _ k.chains in
    let s1 : list_all (λ n. leb (length n.subnets) 4) c.networks ≡ true = (few_iff (λ (n : Network). length n.subnets) 4 c.networks).1 k.subnets in
    let s2 : list_all (λ n. leb (length n.policies) 4) c.networks ≡ true = (few_iff (λ (n : Network). length n.policies) 4 c.networks).1 k.attachments in
    let s3 : list_all (λ p. leb (length p.rules) 16) c.policies ≡ true = (few_iff (λ (p : Policy). length p.rules) 16 c.policies).1 k.rules in
    let s4 : list_all (λ d. leb (length d.hops) 64) c.chains ≡ true = (few_iff (λ (d : Chain). length d.hops) 64 c.chains).1 k.hops in
    let counts : broken_count t c ≡ None = rw (e1, e0, e2, e3, e4, e5, e6, e7) refl in
    let parts : broken_part c ≡ None = rw (s1, s2, s3, s4) refl in
    (both_none (broken_count t c) (broken_part c)).1 (counts, parts)

pub limits_iff : (t : Topology) (c : Config) → (broken_limit t c ≡ None) ↔ KeepsLimits t c
limits_iff t c = (limits_kept t c, limits_keep t c)

-- 2

pub names_iff : (t : Topology) (c : Config) → (broken_name t c ≡ None) ↔ HasDistinctNames t c
unfolding broken_name
names_iff t c =
    let parts = six_none (repeated_name (controller_names t ++ node_names t)) (repeated_name (network_names c)) (repeated_name (port_names c))
    (repeated_name (policy_names c)) (repeated_name (service_names c ++ chain_names c)) (first_of repeated_controller t.nodes) in
    let listed = iff_then (first_of_none repeated_controller t.nodes)
    (all_iff (λ (n : Node). repeated_controller n ≡ None) (λ (n : Node). AreDistinct n.controllers) (λ n. distinct_names n.controllers) t.nodes) in (
      λ h. let p = parts.0 h in record {
        nodes = (distinct_names (controller_names t ++ node_names t)).0 p.0;
        networks = (distinct_names (network_names c)).0 p.1;
        ports = (distinct_names (port_names c)).0 p.2;
        policies = (distinct_names (policy_names c)).0 p.3;
        hops = (distinct_names (service_names c ++ chain_names c)).0 p.4;
        controllers = listed.0 p.5;
      },
      λ k. parts.1 (
        (distinct_names (controller_names t ++ node_names t)).1 k.nodes,
        (distinct_names (network_names c)).1 k.networks,
        (distinct_names (port_names c)).1 k.ports,
        (distinct_names (policy_names c)).1 k.policies,
        (distinct_names (service_names c ++ chain_names c)).1 k.hops,
        listed.1 k.controllers,
      ),
    )

-- 3

pub numbers_iff : (t : Topology) (c : Config) → (broken_id t c ≡ None) ↔ HasDistinctNumbers t c
unfolding broken_id
numbers_iff t c =
    let addresses : List ℕ = map (λ n. n.address.0) t.controllers ++ map (λ n. n.address.0) t.nodes in
    let networks : List ℕ = map (λ n. n.id.0) c.networks in
    let ports : List ℕ = map (λ p. p.id.0) c.ports in
    let sequences : List ℕ = map (λ p. p.sequence) c.policies in
    let services : List ℕ = map (λ s. s.id.0) c.services in
    let parts = six_none (repeated_id Id.Address addresses) (repeated_id Id.Network networks) (repeated_id Id.Port ports)
    (repeated_id Id.Sequence sequences) (repeated_id Id.Service services) (repeated_id Id.Use (use_numbers c)) in (
      λ h. let p = parts.0 h in record {
        addresses = (distinct_ids Id.Address addresses).0 p.0;
        networks = (distinct_ids Id.Network networks).0 p.1;
        ports = (distinct_ids Id.Port ports).0 p.2;
        sequences = (distinct_ids Id.Sequence sequences).0 p.3;
        services = (distinct_ids Id.Service services).0 p.4;
        uses = (distinct_ids Id.Use (use_numbers c)).0 p.5;
      },
      λ k. parts.1 (
        (distinct_ids Id.Address addresses).1 k.addresses,
        (distinct_ids Id.Network networks).1 k.networks,
        (distinct_ids Id.Port ports).1 k.ports,
        (distinct_ids Id.Sequence sequences).1 k.sequences,
        (distinct_ids Id.Service services).1 k.services,
        (distinct_ids Id.Use (use_numbers c)).1 k.uses,
      ),
    )

-- 4

all_exist_iff : (names wanted : List (List ℕ)) → (first_of (missing names) wanted ≡ None) ↔ All (Contains names) wanted
all_exist_iff names wanted =
    iff_then (first_of_none (missing names) wanted) (all_iff (λ name. missing names name ≡ None) (Contains names) (exists_iff names) wanted)

port_iff : (networks nodes : List (List ℕ)) (p : Port) → (missing_in_port networks nodes p ≡ None) ↔ (Contains networks p.network × Contains nodes p.node)
port_iff networks nodes p =
    iff_then (both_none (missing networks p.network) (missing nodes p.node)) (iff_both (exists_iff networks p.network) (exists_iff nodes p.node))

rule_iff : (networks chains : List (List ℕ)) (r : NumberedRule)
    → (missing_in_rule networks chains r ≡ None) ↔ (EndExists networks r.rule.source × EndExists networks r.rule.destination × ChainExists chains r.rule.action)
rule_iff networks chains r =
    let source = end_exists_iff networks r.rule.source in
    let destination = end_exists_iff networks r.rule.destination in
    let action = chain_exists_iff chains r.rule.action in
    let outer = both_none (missing_end networks r.rule.source) (missing_end networks r.rule.destination <|> missing_chain chains r.rule.action) in
    let inner = both_none (missing_end networks r.rule.destination) (missing_chain chains r.rule.action) in (
      λ h. let p = outer.0 h in let q = inner.0 p.1 in (source.0 p.0, destination.0 q.0, action.0 q.1),
      λ k. outer.1 (source.1 k.0, inner.1 (destination.1 k.1, action.1 k.2)),
    )

each_iff : {A : Type 0} (f : A → Option Refusal) (P : A → Type 0) → ((x : A) → (f x ≡ None) ↔ P x) → (xs : List A) → (first_of f xs ≡ None) ↔ All P xs
each_iff f P same xs = iff_then (first_of_none f xs) (all_iff (λ x. f x ≡ None) P same xs)

pub references_iff : (t : Topology) (c : Config) → (broken_reference t c ≡ None) ↔ HasReferents t c
unfolding broken_reference
references_iff t c =
    let hop_names : List (List ℕ) = service_names c ++ chain_names c in
    let parts = six_none (first_of (missing_in_node (controller_names t)) t.nodes) (first_of (missing_in_network (policy_names c)) c.networks)
    (first_of (missing_in_port (network_names c) (node_names t)) c.ports) (first_of (missing_in_rule (network_names c) (chain_names c)) (all_rules c))
    (first_of (missing_in_service (node_names t)) c.services) (first_of (missing_in_chain hop_names) c.chains) in
    let nodes = each_iff (missing_in_node (controller_names t)) (λ n. All (Contains (controller_names t)) n.controllers) (λ n. all_exist_iff (controller_names t) n.controllers) t.nodes in
    let networks = each_iff (missing_in_network (policy_names c)) (λ n. All (Contains (policy_names c)) n.policies) (λ n. all_exist_iff (policy_names c) n.policies) c.networks in
    let ports = each_iff (missing_in_port (network_names c) (node_names t)) (λ p. Contains (network_names c) p.network × Contains (node_names t) p.node) (port_iff (network_names c) (node_names t)) c.ports in
    let rules = each_iff (missing_in_rule (network_names c) (chain_names c))
    (λ r. EndExists (network_names c) r.rule.source × EndExists (network_names c) r.rule.destination × ChainExists (chain_names c) r.rule.action)
    (rule_iff (network_names c) (chain_names c)) (all_rules c) in
    let services = each_iff (missing_in_service (node_names t)) (λ s. Contains (node_names t) s.node) (λ s. exists_iff (node_names t) s.node) c.services in
    let chains = each_iff (missing_in_chain hop_names) (λ d. All (Contains hop_names) d.hops) (λ d. all_exist_iff hop_names d.hops) c.chains in (
      λ h. let p = parts.0 h in record {
        controllers = nodes.0 p.0;
        policies = networks.0 p.1;
        ports = ports.0 p.2;
        rules = rules.0 p.3;
        services = services.0 p.4;
        hops = chains.0 p.5;
      },
      λ k. parts.1 (nodes.1 k.controllers, networks.1 k.policies, ports.1 k.ports, rules.1 k.rules, services.1 k.services, chains.1 k.hops),
    )

-- 5 to 8

pub reserved_in_iff : (n : Network) → (reserved_in n ≡ None) ↔ All (λ p. ¬ Overlap circuit_addresses p) n.subnets
reserved_in_iff n =
    iff_then (mapped_none (λ (p : Block). SubnetReserved n.name p) (find (overlap circuit_addresses) n.subnets))
    (iff_then (find_none (overlap circuit_addresses) n.subnets)
    (all_iff (λ p. overlap circuit_addresses p ≡ false) (λ p. ¬ Overlap circuit_addresses p) (apart_iff circuit_addresses) n.subnets))

pub reserved_iff : (c : Config) → (broken_reserved c ≡ None) ↔ ReservesCircuits c
unfolding broken_reserved
reserved_iff c = each_iff reserved_in (λ n. All (λ p. ¬ Overlap circuit_addresses p) n.subnets) reserved_in_iff c.networks

pub nested_in_iff : (n : Network) → (nested_in n ≡ None) ↔ AllPairs (λ p q. ¬ Overlap p q) n.subnets
nested_in_iff n =
    iff_then (mapped_none (λ (m : Block × Block). SubnetNested n.name m.0 m.1) (first_meeting overlap n.subnets))
    (iff_then (first_meeting_none overlap n.subnets)
    (pairs_iff (λ p q. overlap p q ≡ false) (λ p q. ¬ Overlap p q) apart_iff n.subnets))

pub flat_iff : (c : Config) → (broken_nested c ≡ None) ↔ HasFlatSubnets c
unfolding broken_nested
flat_iff c = each_iff nested_in (λ n. AllPairs (λ p q. ¬ Overlap p q) n.subnets) nested_in_iff c.networks

pub holds_iff : (c : Config) → (broken_outside c ≡ None) ↔ HoldsAddresses c
unfolding broken_outside
holds_iff c =
    iff_then (mapped_none (λ (p : Port). AddressOutside p.name) (find (is_outside c) c.ports))
    (iff_then (find_none (is_outside c) c.ports)
    (all_iff (λ p. is_outside c p ≡ false) (λ p. IfSome (network_named c p.network) (λ n. Any (λ s. contains s p.address.0 ≡ true) n.subnets)) (inside_iff c) c.ports))

pub addresses_iff : (c : Config) → (broken_taken c ≡ None) ↔ HasDistinctAddresses c
unfolding broken_taken
addresses_iff c =
    iff_then (mapped_none (λ (m : Port × Port). AddressTaken m.0.name m.1.name) (first_meeting share_address c.ports))
    (iff_then (first_meeting_none share_address c.ports)
    (pairs_iff (λ p q. share_address p q ≡ false) (λ p q. ¬ ((p.network ≡ q.network) × (p.address.0 ≡ q.address.0))) shares_iff c.ports))

-- 9 and 10

pub ends_named_iff : (rules : List NumberedRule) → (broken_needs rules ≡ None) ↔ All (λ r. NamesEnds r.rule) rules
unfolding broken_needs
ends_named_iff rules =
    iff_then (mapped_none (λ (r : NumberedRule). ChainNeedsNetworks r.number) (find (λ r. lacks_network r.rule) rules))
    (iff_then (find_none (λ r. lacks_network r.rule) rules)
    (all_iff (λ r. lacks_network r.rule ≡ false) (λ r. NamesEnds r.rule) (λ r. ends_iff r.rule.action r.rule.source r.rule.destination) rules))

pub two_named_iff : (rules : List NumberedRule) → (broken_same rules ≡ None) ↔ All (λ r. NamesTwo r.rule) rules
unfolding broken_same
two_named_iff rules =
    iff_then (mapped_none (λ (r : NumberedRule). ChainSameNetwork r.number) (find (λ r. turns_back r.rule) rules))
    (iff_then (find_none (λ r. turns_back r.rule) rules)
    (all_iff (λ r. turns_back r.rule ≡ false) (λ r. NamesTwo r.rule) (λ r. names_two_iff r.rule.action r.rule.source r.rule.destination) rules))

-- 11 to 13

pub straight_iff : (c : Config) → (broken_loop c ≡ None) ↔ All (λ d. loops c d.name ≡ false) c.chains
unfolding broken_loop
straight_iff c =
    iff_then (mapped_none (λ (d : Chain). ChainLoop d.name) (find (λ d. loops c d.name) c.chains)) (find_none (λ d. loops c d.name) c.chains)

at_most_iff : (b : Bool) (n : ℕ) → b ≡ ltb 15 n → (b ≡ false) ↔ (n ≤ 15)
at_most_iff b n e = (λ h. let below : ltb 15 n ≡ false = sym e ∙ h in grind (arith, nat_tests), λ h. e ∙ le-ltb 15 n h)

pub short_iff : (c : Config) → broken_loop c ≡ None → (broken_long c ≡ None) ↔ All (λ d. length (expansion c d.name) ≤ 15) c.chains
unfolding broken_long
short_iff c straight =
    iff_then (mapped_none (λ (d : Chain). ChainTooLong d.name) (find (is_too_long c) c.chains))
    (iff_then (find_none (is_too_long c) c.chains)
    (all_iff (λ d. is_too_long c d ≡ false) (λ d. length (expansion c d.name) ≤ 15)
    (λ d. at_most_iff (is_too_long c d) (length (expansion c d.name)) (too_long_is c d straight)) c.chains))

numbers_apart : (s u : Service) → (same_number s u ≡ false) ↔ (s.id.0 ≢ u.id.0)
numbers_apart s u = grind (arith, nat_tests)

twice_apart : (c : Config) (d : Chain) → broken_loop c ≡ None → (twice_in c d ≡ None) ↔ AllPairs (λ s u. s.id.0 ≢ u.id.0) (expansion c d.name)
twice_apart c d straight =
    let found : Option (Service × Service) = first_meeting same_number (expansion c d.name) in
    let is : twice_in c d ≡ option_map (λ m. ServiceTwice d.name m.1.name) found = rw (no_loop c d.name straight) refl in
    iff_then (λ h. sym is ∙ h, λ h. is ∙ h)
    (iff_then (mapped_none (λ (m : Service × Service). ServiceTwice d.name m.1.name) found)
    (iff_then (first_meeting_none same_number (expansion c d.name))
    (pairs_iff (λ s u. same_number s u ≡ false) (λ s u. s.id.0 ≢ u.id.0) numbers_apart (expansion c d.name))))

pub once_iff : (c : Config) → broken_loop c ≡ None → (broken_twice c ≡ None) ↔ All (λ d. AllPairs (λ s u. s.id.0 ≢ u.id.0) (expansion c d.name)) c.chains
unfolding broken_twice
once_iff c straight = each_iff (twice_in c) (λ d. AllPairs (λ s u. s.id.0 ≢ u.id.0) (expansion c d.name)) (λ d. twice_apart c d straight) c.chains

-- 14

pub apart_around_iff : (c : Config) → (broken_overlap c ≡ None) ↔ All (λ n. AllPairs (λ a b. IsAround c n a → IsAround c n b → AreApart a b) c.networks) c.networks
unfolding broken_overlap
apart_around_iff c =
    each_iff (overlapping_around c) (λ n. AllPairs (λ a b. IsAround c n a → IsAround c n b → AreApart a b) c.networks) (around_iff c) c.networks
