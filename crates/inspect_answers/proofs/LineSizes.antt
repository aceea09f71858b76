-- The names of lines have the form of names, and their numbers the sizes of their types.
use Rattle.std.proofs.Common.{◌≡◌, ℕ, ◌+◌, ◌≤◌, ◌^◌, ◌%◌, ◌==◌, ◌&&◌, leb, ltb, not, true, List, [], ◌∷◌, ◌++◌, Option, Some, None, length, map, flat_map, refl, arith}
use Rattle.std.specs.Prelude.{codes, nat_eq}
use Rattle.std.specs.Cmp.Lexicographic.{pointwise}
use Rattle.std.specs.List.{Contains, list_all, list_any}
use Rattle.std.proofs.lemmas.Bool.{and_from, and_parts, le-leb, leb-true, lt-ltb, ltb-true}
use Rattle.ov_types.specs.First.{same_name}
use Rattle.ov_types.specs.Name.{is_name}
use Rattle.ov_types.specs.Prefix.{Block, is_block, is_prefix, size_of}
use Rattle.ov_types.specs.declared.packet.RuleNo.{RuleNo}
use Rattle.config_types.specs.Form.{has_chain_form, has_config_form, has_network_form, has_policy_form, has_port_form, has_rule_form, has_service_form, is_from_to, is_network_name}
use Rattle.config_types.specs.declared.config.Chain.{Chain}
use Rattle.config_types.specs.declared.config.Config.{Config}
use Rattle.config_types.specs.declared.config.Network.{Network}
use Rattle.config_types.specs.declared.config.Policy.{Policy}
use Rattle.config_types.specs.declared.config.Port.{Port}
use Rattle.config_types.specs.declared.config.Rule.{Rule}
use Rattle.config_types.specs.declared.config.Service.{Service}
use Rattle.config_types.specs.declared.topology.Topology.{Topology}
use Rattle.config_check.specs.Finding.{network_named}
use Rattle.config_check.specs.Rules.{first_broken}
use Rattle.policy_rules.specs.Related.{all_rules, numbered_from, numbered_rules}
use Rattle.policy_rules.specs.declared.matching.Decision.{Decision}
use Rattle.policy_rules.specs.declared.numbered.NumberedRule.{NumberedRule}
use Rattle.policy_rules.proofs.Lists.{kept_is}
use Rattle.policy_regions.specs.Joined.{regions_between}
use Rattle.policy_regions.specs.Overlay.{overlay}
use Rattle.policy_regions.specs.declared.overlays.Compared.{Compared}
use Rattle.policy_regions.specs.declared.region.Effect.{Effect}
use Rattle.policy_regions.specs.declared.region.Effect.TheVariants.{Passes, Drops, Leads}
use Rattle.policy_regions.specs.declared.region.Region.{Region}
use Rattle.reach_plain.specs.Reachability.{services_through}
use Rattle.inspect_changes.specs.Fates.{all_differences, differences_between, differences_from, differences_of, differences_to, fate_by, passage, same_passage}
use Rattle.inspect_changes.specs.Objects.{gone, network_of, objects_of, port_of, same_object, service_of, subnet_of, subnets_of}
use Rattle.inspect_changes.specs.Ways.{ways_between, ways_by, ways_of}
use Rattle.inspect_changes.specs.declared.fate.Difference.{Difference}
use Rattle.inspect_changes.specs.declared.objects.Object.{Object}
use Rattle.inspect_changes.specs.declared.way.Passage.{Passage}
use Rattle.inspect_changes.specs.declared.way.Passage.TheVariants as Goes
use Rattle.inspect_changes.specs.declared.way.Way.{Way}
use Rattle.inspect_rules.specs.Deciders.{decides_some}
use Rattle.inspect_rules.specs.Idle.{attached_count, before_of, has_use, idle, idle_chain, idle_policy, idle_rule, stands_before}
use Rattle.inspect_rules.specs.declared.idle.Idle.{Idle}
use Rattle.inspect_rules.specs.declared.idle.Idle.TheVariants as Is
use Rattle.inspect_json.specs.Sizes.{has_difference_size, has_fate_size, has_idle_size, has_object_size, has_region_size, has_rule_size, has_service_size, has_way_size}
use Rattle.inspect_json.specs.Values.{passage_services}
use Rattle.inspect_answers.proofs.OfEach.{Each, each_append, each_cond, each_flat, each_map, each_of, each_passes, of_each, passes_each, passes_of}
use Rattle.inspect_answers.proofs.RegionSizes.{HasSmallRule, IsSized, IsSizedCompared, IsSmall, between_sized, overlay_sized, region_size}
use Rattle.inspect_answers.proofs.RuleSizes.{each_claim_sized, few_of, forms_of, policy_form, rule_size, services_sized}

-- parts of the written form

pub record HasNetworkParts (n : Network) : Type 0 where
  pub name : is_name n.name ≡ true
  pub subnets : list_all is_block n.subnets ≡ true
  pub policies : list_all is_name n.policies ≡ true

network_parts : (n : Network) → has_network_form n ≡ true → HasNetworkParts n
unfolding has_network_form
network_parts n h =
    let by_policies = and_parts (is_network_name n.name && is_from_to 1 16383 n.id.0 && list_all is_block n.subnets) (list_all is_name n.policies) h in
    let by_subnets = and_parts (is_network_name n.name && is_from_to 1 16383 n.id.0) (list_all is_block n.subnets) by_policies.0 in
    let by_number = and_parts (is_network_name n.name) (is_from_to 1 16383 n.id.0) by_subnets.0 in
    record {
      name = (and_parts (is_name n.name) (not (pointwise nat_eq n.name (codes "any"))) by_number.0).0;
      subnets = by_subnets.1;
      policies = by_policies.1;
    }

pub network_form : (c : Config) (n : Network) → has_config_form c ≡ true → Contains c.networks n → HasNetworkParts n
network_form c n form at = network_parts n (passes_of has_network_form c.networks n (forms_of c form).networks at)

-- ways

way_size : (r : Region) (d : Decision) (p : Passage) → IsSmall r → has_rule_size d.rule ≡ true → list_all has_service_size (passage_services p) ≡ true
    → has_way_size (record { region = r; decision = d; passage = p }) ≡ true
way_size r d p small rule services =
    and_from (has_region_size r && has_rule_size d.rule) (list_all has_service_size (passage_services p))
    (and_from (has_region_size r) (has_rule_size d.rule) (region_size r small) rule) services

abbrev IsSizedWay : Way → Type 0
IsSizedWay w = has_way_size w ≡ true

each_way : (c : Config) → has_config_form c ≡ true → (r : Region) (o : Option Decision) (e : Effect) → IsSmall r → HasSmallRule o
    → Each IsSizedWay (ways_by c r o e)
each_way c form r None e small rule = tt
each_way c form r (Some d) Passes small rule = (way_size r d Goes.Straight small rule refl, tt)
each_way c form r (Some d) Drops small rule = tt
each_way c form r (Some d) (Leads chain) small rule =
    (way_size r d (Goes.Through (services_through c chain d.mirrored)) small rule (services_sized c form chain d.mirrored), tt)

pub way_sized : (t : Topology) (c : Config) (a b : Network) (w : Way) → has_config_form c ≡ true → first_broken t c ≡ None
    → Contains (ways_between c a b) w → has_way_size w ≡ true
way_sized t c a b w form valid at =
    of_each IsSizedWay (ways_between c a b) w
    (each_flat IsSized IsSizedWay (ways_of c) (λ r h. each_way c form r.region r.decision r.effect h.small h.rule) (regions_between c a b)
    (between_sized c a b (each_claim_sized t c a b form valid))) at

-- objects

abbrev IsSizedObject : Object → Type 0
IsSizedObject o = has_object_size o ≡ true

block_length : (b : Block) → is_block b ≡ true → leb b.len 255 ≡ true
block_length b h =
    let prefix = and_parts (is_prefix b.addr b.len) (ltb b.addr (2 ^ 32)) h in
    let parts = and_parts (ltb b.len 33) (b.addr % size_of b.len == 0) prefix.0 in
    le-leb b.len 255 (omega (arith, ltb-true b.len 33 parts.0))

subnets_sized : (n : Network) → HasNetworkParts n → Each IsSizedObject (subnets_of n)
subnets_sized n h =
    each_map (λ (b : Block). is_block b ≡ true) IsSizedObject (subnet_of n.name)
    (λ b block. and_from (is_name n.name) (leb b.len 255) h.name (block_length b block)) n.subnets (passes_each is_block n.subnets h.subnets)

port_sized : (q : Port) → has_port_form q ≡ true → IsSizedObject (port_of q)
unfolding has_port_form
port_sized q h =
    let by_node = and_parts (is_name q.name && leb q.id.0 524271 && is_name q.network && leb q.address.0 0xffff_ffff) (is_name q.node) h in
    let by_address = and_parts (is_name q.name && leb q.id.0 524271 && is_name q.network) (leb q.address.0 0xffff_ffff) by_node.0 in
    let by_network = and_parts (is_name q.name && leb q.id.0 524271) (is_name q.network) by_address.0 in
    let by_number = and_parts (is_name q.name) (leb q.id.0 524271) by_network.0 in
    let number : q.id.0 ≤ 0xffff_ffff = omega (arith, leb-true q.id.0 524271 by_number.1) in
    and_from (leb q.id.0 0xffff_ffff && is_name q.network) (is_name q.node)
    (and_from (leb q.id.0 0xffff_ffff) (is_name q.network) (le-leb q.id.0 0xffff_ffff number) by_network.1) by_node.1

service_sized : (s : Service) → has_service_form s ≡ true → IsSizedObject (service_of s)
unfolding has_service_form
service_sized s h =
    let by_node = and_parts (is_name s.name && leb s.id.0 65535) (is_name s.node) h in
    let by_number = and_parts (is_name s.name) (leb s.id.0 65535) by_node.0 in
    and_from (leb s.id.0 65535) (is_name s.node) by_number.1 by_node.1

each_object : (c : Config) → has_config_form c ≡ true → Each IsSizedObject (objects_of c)
each_object c form =
    let networks : Each HasNetworkParts c.networks = each_of HasNetworkParts c.networks (λ n at. network_form c n form at) in
    each_append IsSizedObject (map network_of c.networks) (flat_map subnets_of c.networks ++ (map port_of c.ports ++ map service_of c.services))
    (each_map HasNetworkParts IsSizedObject network_of (λ n h. h.name) c.networks networks)
    (each_append IsSizedObject (flat_map subnets_of c.networks) (map port_of c.ports ++ map service_of c.services)
    (each_flat HasNetworkParts IsSizedObject subnets_of subnets_sized c.networks networks)
    (each_append IsSizedObject (map port_of c.ports) (map service_of c.services)
    (each_map (λ (q : Port). has_port_form q ≡ true) IsSizedObject port_of port_sized c.ports (passes_each has_port_form c.ports (forms_of c form).ports))
    (each_map (λ (s : Service). has_service_form s ≡ true) IsSizedObject service_of service_sized c.services
    (passes_each has_service_form c.services (forms_of c form).services))))

pub object_sized : (c d : Config) (o : Object) → has_config_form c ≡ true → Contains (gone c d) o → has_object_size o ≡ true
object_sized c d o form at =
    of_each IsSizedObject (objects_of c) o (each_object c form) (kept_is (λ o. not (list_any (same_object o) (objects_of d))) (objects_of c) o at).0

-- differences

fate_sized : (c : Config) → has_config_form c ≡ true → (o : Option Decision) (e : Effect) → HasSmallRule o → has_fate_size (fate_by c o e) ≡ true
fate_sized c form None e rule = refl
fate_sized c form (Some d) Passes rule = rule
fate_sized c form (Some d) Drops rule = rule
fate_sized c form (Some d) (Leads chain) rule =
    and_from (has_rule_size d.rule) (list_all has_service_size (services_through c chain d.mirrored)) rule (services_sized c form chain d.mirrored)

abbrev IsSizedDifference : Difference → Type 0
IsSizedDifference x = has_difference_size x ≡ true

module _ (s t : Topology) (c d : Config) (form : has_config_form c ≡ true) (form' : has_config_form d ≡ true) (valid : first_broken s c ≡ None)
    (valid' : first_broken t d ≡ None) where
  difference_sized : (from to : List ℕ) (r : Compared) → is_name from ≡ true → is_name to ≡ true → IsSizedCompared r
      → Each IsSizedDifference (differences_of from to c d r)
  difference_sized from to r from_named to_named h =
      let x : Difference = record {
        from = from;
        to = to;
        region = r.region;
        was = fate_by c r.before r.was;
        becomes = fate_by d r.after r.becomes;
      } in
      let named = and_from (is_name from) (is_name to) from_named to_named in
      let placed = and_from (is_name from && is_name to) (has_region_size r.region) named (region_size r.region h.small) in
      let was = and_from (is_name from && is_name to && has_region_size r.region) (has_fate_size x.was) placed (fate_sized c form r.before r.was h.before) in
      let sized : IsSizedDifference x =
      and_from (is_name from && is_name to && has_region_size r.region && has_fate_size x.was) (has_fate_size x.becomes) was
      (fate_sized d form' r.after r.becomes h.after) in
      each_cond IsSizedDifference (same_passage (passage x.was) (passage x.becomes)) [] (x ∷ []) (λ e. tt) (λ e. (sized, tt))

  between : (a b a' b' : Network) → is_name a.name ≡ true → is_name b.name ≡ true → Each IsSizedDifference (differences_between c a b d a' b')
  between a b a' b' a_named b_named =
      each_flat IsSizedCompared IsSizedDifference (differences_of a.name b.name c d) (λ r h. difference_sized a.name b.name r a_named b_named h)
      (overlay (regions_between c a b) (regions_between d a' b'))
      (overlay_sized (regions_between c a b) (regions_between d a' b') (between_sized c a b (each_claim_sized s c a b form valid))
      (between_sized d a' b' (each_claim_sized t d a' b' form' valid')))

  onto : (a a' b : Network) (o : Option Network) → is_name a.name ≡ true → is_name b.name ≡ true → Each IsSizedDifference (differences_to c a d a' b o)
  onto a a' b None a_named b_named = tt
  onto a a' b (Some b') a_named b_named =
      each_cond IsSizedDifference (same_name a.name b.name) [] (differences_between c a b d a' b') (λ e. tt) (λ e. between a b a' b' a_named b_named)

  abbrev IsNamed : Network → Type 0
  IsNamed n = is_name n.name ≡ true

  all_named : Each IsNamed c.networks
  all_named = each_of IsNamed c.networks (λ n at. (network_form c n form at).name)

  out_of : (a : Network) (o : Option Network) → is_name a.name ≡ true → Each IsSizedDifference (differences_from c a d o)
  out_of a None a_named = tt
  out_of a (Some a') a_named =
      each_flat IsNamed IsSizedDifference (λ b. differences_to c a d a' b (network_named d b.name))
      (λ b b_named. onto a a' b (network_named d b.name) a_named b_named) c.networks all_named

  pub each_difference : (x : Difference) → Contains (all_differences c d) x → has_difference_size x ≡ true
  each_difference x at =
      of_each IsSizedDifference (all_differences c d) x
      (each_flat IsNamed IsSizedDifference (λ a. differences_from c a d (network_named d a.name)) (λ a a_named. out_of a (network_named d a.name) a_named)
      c.networks all_named) at

-- what is idle

abbrev IsSizedIdle : Idle → Type 0
IsSizedIdle x = has_idle_size x ≡ true

abbrev IsSizedNumber : NumberedRule → Type 0
IsSizedNumber r = has_rule_size r.number ≡ true

numbered_sized : (sequence position : ℕ) (rules : List Rule) → sequence ≤ 65535 → position + length rules ≤ 65536
    → Each IsSizedNumber (numbered_from sequence position rules)
numbered_sized sequence position [] h k = tt
numbered_sized sequence position (r ∷ rs) h k =
    let here : position ≤ 65535 = omega (arith, k) in
    let later : (position + 1) + length rs ≤ 65536 = omega (arith, k) in
    (rule_size (record { sequence = sequence; position = position }) h here, numbered_sized sequence (position + 1) rs h later)

sequence_of : (p : Policy) → has_policy_form p ≡ true → p.sequence ≤ 65535
unfolding has_policy_form
sequence_of p h =
    let parts = and_parts (is_name p.name && leb p.sequence 65535) (list_all has_rule_form p.rules) h in
    leb-true p.sequence 65535 (and_parts (is_name p.name) (leb p.sequence 65535) parts.0).1

pub policy_named : (p : Policy) → has_policy_form p ≡ true → is_name p.name ≡ true
unfolding has_policy_form
policy_named p h =
    let parts = and_parts (is_name p.name && leb p.sequence 65535) (list_all has_rule_form p.rules) h in
    (and_parts (is_name p.name) (leb p.sequence 65535) parts.0).0

chain_named : (k : Chain) → has_chain_form k ≡ true → is_name k.name ≡ true
unfolding has_chain_form
chain_named k h =
    let parts = and_parts (is_name k.name && list_all is_name k.hops) (leb 1 (length k.hops)) h in
    (and_parts (is_name k.name) (list_all is_name k.hops) parts.0).0

pub record IsFewOfForm (p : Policy) : Type 0 where
  pub form : has_policy_form p ≡ true
  pub few : length p.rules ≤ 16

module _ (t : Topology) (c : Config) (form : has_config_form c ≡ true) (valid : first_broken t c ≡ None) where
  policies_of : Each IsFewOfForm c.policies
  policies_of = each_of IsFewOfForm c.policies (λ p at. record { form = policy_form t c form valid p at; few = few_of t c form valid p at })

  rules_sized : Each IsSizedNumber (all_rules c)
  rules_sized =
      each_flat IsFewOfForm IsSizedNumber numbered_rules
      (λ p h. numbered_sized p.sequence 1 p.rules (sequence_of p h.form) (let few = h.few in omega (arith, few))) c.policies policies_of

  before_sized : (n m : NumberedRule) → IsSizedNumber m → Each (λ (r : RuleNo). has_rule_size r ≡ true) (before_of c n m)
  before_sized n m h = each_cond (λ (r : RuleNo). has_rule_size r ≡ true) (stands_before c n m) (m.number ∷ []) [] (λ e. (h, tt)) (λ e. tt)

  idle_rule_sized : (n : NumberedRule) → IsSizedNumber n → Each IsSizedIdle (idle_rule c n)
  idle_rule_sized n h =
      let before : List RuleNo = flat_map (before_of c n) (all_rules c) in
      let each : list_all has_rule_size before ≡ true =
      each_passes has_rule_size before
      (each_flat IsSizedNumber (λ (r : RuleNo). has_rule_size r ≡ true) (before_of c n) (λ m k. before_sized n m k) (all_rules c) rules_sized) in
      each_cond IsSizedIdle (decides_some c n.number) [] (Is.Rule n.number before ∷ []) (λ e. tt)
      (λ e. (and_from (has_rule_size n.number) (list_all has_rule_size before) h each, tt))

  idle_policy_sized : (p : Policy) → IsFewOfForm p → Each IsSizedIdle (idle_policy c p)
  idle_policy_sized p h =
      let count : ℕ = attached_count p c.networks in
      each_cond IsSizedIdle (ltb count 2) (Is.Policy p.name count ∷ []) []
      (λ e. (and_from (is_name p.name) (ltb count (2 ^ 64)) (policy_named p h.form) (lt-ltb count (2 ^ 64) (omega (arith, ltb-true count 2 e))), tt)) (λ e. tt)

  idle_chain_sized : (k : Chain) → has_chain_form k ≡ true → Each IsSizedIdle (idle_chain c k)
  idle_chain_sized k h = each_cond IsSizedIdle (list_any (has_use c k.name) c.policies) [] (Is.Chain k.name ∷ []) (λ e. tt) (λ e. (chain_named k h, tt))

  each_idle : Each IsSizedIdle (idle c)
  unfolding idle
  each_idle =
      each_append IsSizedIdle (flat_map (idle_rule c) (all_rules c)) (flat_map (idle_policy c) c.policies ++ flat_map (idle_chain c) c.chains)
      (each_flat IsSizedNumber IsSizedIdle (idle_rule c) idle_rule_sized (all_rules c) rules_sized)
      (each_append IsSizedIdle (flat_map (idle_policy c) c.policies) (flat_map (idle_chain c) c.chains)
      (each_flat IsFewOfForm IsSizedIdle (idle_policy c) idle_policy_sized c.policies policies_of)
      (each_flat (λ (k : Chain). has_chain_form k ≡ true) IsSizedIdle (idle_chain c) idle_chain_sized c.chains
      (passes_each has_chain_form c.chains (forms_of c form).chains)))

  pub idle_sized : (x : Idle) → Contains (idle c) x → has_idle_size x ≡ true
  idle_sized x at = of_each IsSizedIdle (idle c) x each_idle at
