-- The numbers of rules and of services are of 16 bits.
use Rattle.std.proofs.Common.{◌≡◌, ℕ, zero, suc, ◌+◌, ◌≤◌, ◌<◌, ◌&&◌, leb, Bool, true, false, List, [], ◌∷◌, Option, Some, None, length, map, flat_map, reverse, refl, arith}
use Rattle.std.specs.Prelude.{slice_get}
use Rattle.std.specs.List.{Contains, list_all}
use Rattle.std.specs.Option.{option_map_or}
use Rattle.std.proofs.lemmas.Bool.{and_from, and_parts, le-leb, leb-true}
use Rattle.ov_types.specs.declared.numbers.ServiceNo.{ServiceNo}
use Rattle.ov_types.specs.declared.packet.RuleNo.{RuleNo}
use Rattle.ov_types.specs.First.{same_name}
use Rattle.ov_types.specs.Name.{is_name}
use Rattle.ov_types.proofs.FirstLemmas.{contains_at, found_is}
use Rattle.config_types.specs.Form.{has_action_form, has_chain_form, has_config_form, has_end_form, has_network_form, has_policy_form, has_port_form, has_protocol_form, has_rule_form, has_service_form, is_range}
use Rattle.config_types.specs.declared.config.Config.{Config}
use Rattle.config_types.specs.declared.config.Network.{Network}
use Rattle.config_types.specs.declared.config.Policy.{Policy}
use Rattle.config_types.specs.declared.config.Protocol.{Protocol}
use Rattle.config_types.specs.declared.config.Protocol.TheVariants.{Any, Number}
use Rattle.config_types.specs.declared.config.Rule.{Rule}
use Rattle.config_types.specs.declared.config.Service.{Service}
use Rattle.config_types.specs.declared.topology.Topology.{Topology}
use Rattle.reach_plain.specs.ChainExpand.Expansion.{expansion, hops_of, service_named, services_within}
use Rattle.config_check.specs.Rules.{first_broken}
use Rattle.policy_rules.specs.Related.{fits, rules_between}
use Rattle.policy_rules.specs.Matching.{speaks_both_ways}
use Rattle.policy_rules.specs.Standing.{IsBetween}
use Rattle.policy_rules.specs.declared.numbered.NumberedRule.{NumberedRule}
use Rattle.policy_rules.proofs.Standing.{between_iff}
use Rattle.policy_regions.specs.Claims.{backwards, claims_between, claims_of, forward_claim, forwards, mirrored_claim, protocols_of}
use Rattle.reach_plain.specs.Reachability.{services_through}
use Rattle.reach_plain.proofs.Kept.{few_rules}
use Rattle.inspect_json.specs.Sizes.{has_rule_size, has_service_size}
use Rattle.inspect_answers.proofs.OfEach.{Each, each_append, each_cond, each_flat, each_flat_all, each_map, each_of, each_passes, each_reversed, passes_of}
use Rattle.inspect_answers.proofs.RegionSizes.{IsSizedClaim, IsSmallRange, small_range}

-- the written form

-- lists of a configuration, each of the written form
pub record HasForms (c : Config) : Type 0 where
  pub networks : list_all has_network_form c.networks ≡ true
  pub ports : list_all has_port_form c.ports ≡ true
  pub policies : list_all has_policy_form c.policies ≡ true
  pub services : list_all has_service_form c.services ≡ true
  pub chains : list_all has_chain_form c.chains ≡ true

pub forms_of : (c : Config) → has_config_form c ≡ true → HasForms c
unfolding has_config_form
forms_of c h =
    let networks : Bool = list_all has_network_form c.networks in
    let ports : Bool = list_all has_port_form c.ports in
    let policies : Bool = list_all has_policy_form c.policies in
    let services : Bool = list_all has_service_form c.services in
    let with_chains = and_parts (networks && ports && policies && services) (list_all has_chain_form c.chains) h in
    let with_services = and_parts (networks && ports && policies) services with_chains.0 in
    let with_policies = and_parts (networks && ports) policies with_services.0 in
    let with_ports = and_parts networks ports with_policies.0 in
    record {
      networks = with_ports.0;
      ports = with_ports.1;
      policies = with_policies.1;
      services = with_services.1;
      chains = with_chains.1;
    }

-- a rule of the written form, with the numbers of a rule
pub record IsSizedRule (r : NumberedRule) : Type 0 where
  pub number : has_rule_size r.number ≡ true
  pub form : has_rule_form r.rule ≡ true

pub within : {A : Type 0} (xs : List A) (place : ℕ) (x : A) → slice_get xs place ≡ Some x → place < length xs
within [] place x h = cc
within (y ∷ ys) zero x h = omega arith
within (y ∷ ys) (suc place) x h = let rest = within ys place x h in omega (arith, rest)

policy_parts : (p : Policy) → has_policy_form p ≡ true → (leb p.sequence 65535 ≡ true) × (list_all has_rule_form p.rules ≡ true)
unfolding has_policy_form
policy_parts p h =
    let a = and_parts (is_name p.name && leb p.sequence 65535) (list_all has_rule_form p.rules) h in
    ((and_parts (is_name p.name) (leb p.sequence 65535) a.0).1, a.1)

pub rule_size : (r : RuleNo) → r.sequence ≤ 65535 → r.position ≤ 65535 → has_rule_size r ≡ true
rule_size r h k = and_from (leb r.sequence 65535) (leb r.position 65535) (le-leb r.sequence 65535 h) (le-leb r.position 65535 k)

-- the rule at a place of a policy of few rules
pub rule_sized : (p : Policy) (place : ℕ) (r : NumberedRule) → has_policy_form p ≡ true → length p.rules ≤ 16 → slice_get p.rules place ≡ Some r.rule
    → r.number.sequence ≡ p.sequence → r.number.position ≡ place + 1 → IsSizedRule r
rule_sized p place r form few stands sequence position =
    let parts = policy_parts p form in
    let bound : p.sequence ≤ 65535 = leb-true p.sequence 65535 parts.0 in
    let inside : place < length p.rules = within p.rules place r.rule stands in
    record {
      number = rule_size r.number (omega (arith, sequence, bound)) (omega (arith, position, inside, few));
      form = passes_of has_rule_form p.rules r.rule parts.1 (contains_at p.rules place r.rule stands);
    }

module _ (t : Topology) (c : Config) (form : has_config_form c ≡ true) (valid : first_broken t c ≡ None) where
  pub few_of : (p : Policy) → Contains c.policies p → length p.rules ≤ 16
  few_of p at = leb-true (length p.rules) 16 (passes_of (λ (q : Policy). leb (length q.rules) 16) c.policies p (few_rules t c valid) at)

  pub policy_form : (p : Policy) → Contains c.policies p → has_policy_form p ≡ true
  policy_form p at = passes_of has_policy_form c.policies p (forms_of c form).policies at

  pub rule_between : (a b : Network) (r : NumberedRule) → Contains (rules_between c a b) r → IsSizedRule r
  rule_between a b r at =
      let between : IsBetween c a b r = (between_iff c a b r).0 at in
      rule_sized between.policy between.place r (policy_form between.policy between.configured) (few_of between.policy between.configured) between.stands
      between.sequence between.position

-- claims

protocols_small : (p : Protocol) → has_protocol_form p ≡ true → IsSmallRange (protocols_of p)
protocols_small Any h = record { lo = omega arith; hi = omega arith }
protocols_small (Number n) h =
    let bound : n ≤ 65535 = omega (arith, leb-true n 255 h) in
    record { lo = bound; hi = bound }

range_small : (lo hi : ℕ) → (leb lo hi && leb hi 65535) ≡ true → IsSmallRange (record { lo = lo; hi = hi })
range_small lo hi h = let parts = and_parts (leb lo hi) (leb hi 65535) h in small_range (record { lo = lo; hi = hi }) parts.0 parts.1

-- the ranges of a rule
record HasSmallRanges (r : Rule) : Type 0 where
  pub protocols : IsSmallRange (protocols_of r.protocol)
  pub source_ports : IsSmallRange r.source_ports
  pub destination_ports : IsSmallRange r.destination_ports

ranges_of : (r : Rule) → has_rule_form r ≡ true → HasSmallRanges r
unfolding has_rule_form
ranges_of r h =
    let ends : Bool = has_end_form r.source && has_end_form r.destination in
    let by_action = and_parts (ends && has_protocol_form r.protocol && is_range r.source_ports && is_range r.destination_ports) (has_action_form r.action) h in
    let by_destination = and_parts (ends && has_protocol_form r.protocol && is_range r.source_ports) (is_range r.destination_ports) by_action.0 in
    let by_source = and_parts (ends && has_protocol_form r.protocol) (is_range r.source_ports) by_destination.0 in
    let by_protocol = and_parts ends (has_protocol_form r.protocol) by_source.0 in
    record {
      protocols = protocols_small r.protocol by_protocol.1;
      source_ports = range_small r.source_ports.lo r.source_ports.hi by_source.1;
      destination_ports = range_small r.destination_ports.lo r.destination_ports.hi by_destination.1;
    }

forward_sized : (r : NumberedRule) → IsSizedRule r → IsSizedClaim (forward_claim r)
forward_sized r h =
    let ranges = ranges_of r.rule h.form in
    record {
      small = record { protocols = ranges.protocols; source_ports = ranges.source_ports; destination_ports = ranges.destination_ports };
      rule = h.number;
    }

mirrored_sized : (r : NumberedRule) → IsSizedRule r → IsSizedClaim (mirrored_claim r)
mirrored_sized r h =
    let ranges = ranges_of r.rule h.form in
    record {
      small = record { protocols = ranges.protocols; source_ports = ranges.destination_ports; destination_ports = ranges.source_ports };
      rule = h.number;
    }

claims_sized : (a b : Network) (r : NumberedRule) → IsSizedRule r → Each IsSizedClaim (claims_of a b r)
claims_sized a b r h =
    each_append IsSizedClaim (forwards a b r) (backwards a b r)
    (each_cond IsSizedClaim (fits r.rule a b) (forward_claim r ∷ []) [] (λ e. (forward_sized r h, tt)) (λ e. tt))
    (each_cond IsSizedClaim (speaks_both_ways r.rule.direction && fits r.rule b a) (mirrored_claim r ∷ []) [] (λ e. (mirrored_sized r h, tt)) (λ e. tt))

pub each_claim_sized : (t : Topology) (c : Config) (a b : Network) → has_config_form c ≡ true → first_broken t c ≡ None
    → Each IsSizedClaim (claims_between c a b)
each_claim_sized t c a b form valid =
    each_flat IsSizedRule IsSizedClaim (claims_of a b) (λ r h. claims_sized a b r h) (rules_between c a b)
    (each_of IsSizedRule (rules_between c a b) (λ r at. rule_between t c form valid a b r at))

-- services

service_number : (s : Service) → has_service_form s ≡ true → has_service_size s.id ≡ true
unfolding has_service_form
service_number s h =
    let a = and_parts (is_name s.name && leb s.id.0 65535) (is_name s.node) h in
    (and_parts (is_name s.name) (leb s.id.0 65535) a.0).1

abbrev IsWritten : Service → Type 0
IsWritten s = has_service_form s ≡ true

of_found : (o : Option Service) (rest : List Service) → ((s : Service) → o ≡ Some s → IsWritten s) → Each IsWritten rest
    → Each IsWritten (option_map_or (λ s. s ∷ []) o rest)
of_found None rest h k = k
of_found (Some s) rest h k = (h s refl, tt)

module _ (c : Config) (form : has_config_form c ≡ true) where
  service_is : (hop : List ℕ) (s : Service) → service_named c hop ≡ Some s → IsWritten s
  service_is hop s e = passes_of has_service_form c.services s (forms_of c form).services (found_is (λ (q : Service). same_name q.name hop) c.services s e).1

  within_written : (n : ℕ) (hop : List ℕ) → Each IsWritten (services_within n c hop)
  unfolding services_within
  within_written zero hop = of_found (service_named c hop) [] (service_is hop) tt
  within_written (suc n) hop =
      of_found (service_named c hop) (flat_map (services_within n c) (hops_of c hop)) (service_is hop)
      (each_flat_all IsWritten (services_within n c) (within_written n) (hops_of c hop))

  pub expansion_written : (chain : List ℕ) → Each IsWritten (expansion c chain)
  expansion_written chain =
      each_flat_all IsWritten (services_within (length c.chains) c) (within_written (length c.chains)) (hops_of c chain)

  ids_sized : (chain : List ℕ) → Each (λ n. has_service_size n ≡ true) (map (λ (s : Service). s.id) (expansion c chain))
  ids_sized chain =
      each_map IsWritten (λ (n : ServiceNo). has_service_size n ≡ true) (λ (s : Service). s.id) service_number (expansion c chain) (expansion_written chain)

  pub services_sized : (chain : List ℕ) (mirrored : Bool) → list_all has_service_size (services_through c chain mirrored) ≡ true
  services_sized chain false = each_passes has_service_size (map (λ (s : Service). s.id) (expansion c chain)) (ids_sized chain)
  services_sized chain true =
      each_passes has_service_size (reverse (map (λ (s : Service). s.id) (expansion c chain)))
      (each_reversed (λ (n : ServiceNo). has_service_size n ≡ true) (map (λ (s : Service). s.id) (expansion c chain)) (ids_sized chain))
