-- In a valid configuration the rows of one instance have distinct prefixes.
use Rattle.std.proofs.Common.{◌≡◌, ◌≢◌, ◌⊎◌, inl, inr, ◌&&◌, ◌+◌, ◌*◌, ◌^◌, ◌≤◌, ◌<◌, ◌-◌, ℕ, Bool, true, false, cond, IsTrue, List, [], ◌++◌, length, Option, None, Some, IfSome, refl, sym, ap, ◌∙◌, subst, arith}
use Rattle.std.specs.Prelude.{nat_eq, nat_le, flat_map}
use Rattle.std.specs.List.{All, AllPairs, Any, Contains, filter_map, list_all}
use Rattle.std.proofs.lemmas.Bool.{and_parts, leb-true, eqb-true}
use Rattle.std.proofs.lemmas.List.Elements.{All-contains, Contains-append_cases}
use Rattle.std.proofs.lemmas.List.Kept.{AllPairs-filter}
use Rattle.std.proofs.lemmas.Nat.{pow_pos}
use Rattle.ov_types.specs.Name.{is_name}
use Rattle.ov_types.specs.Prefix.{Block, contains, host_prefix, size_of}
use Rattle.ov_types.specs.declared.numbers.InstanceId.{InstanceId}
use Rattle.ov_types.proofs.Blocks.{contains_from}
use Rattle.ov_types.specs.First.{same_name}
use Rattle.ov_types.proofs.FirstLemmas.{found_is, any_of, same_name_iff}
use Rattle.node_model.specs.RouteTargets.Numbers.{circuit_address_of, hop_instance_of, left_circuit_of, right_circuit_of}
use Rattle.acl_compile.specs.ConfigTypes.Form.{is_block, is_from_to, is_network_name, is_range, has_end_form, has_protocol_form, has_action_form, has_rule_form, has_policy_form, has_network_form, has_port_form, has_service_form, has_chain_form, has_config_form}
use Rattle.acl_compile.specs.ConfigTypes.Action.{Action}
use Rattle.acl_compile.specs.ConfigTypes.Action.TheVariants.{Through}
use Rattle.acl_compile.specs.ConfigTypes.Config.{Config}
use Rattle.acl_compile.specs.ConfigTypes.Network.{Network}
use Rattle.acl_compile.specs.ConfigTypes.Policy.{Policy}
use Rattle.acl_compile.specs.ConfigTypes.Port.{Port}
use Rattle.acl_compile.specs.ConfigTypes.Rule.{Rule}
use Rattle.acl_compile.specs.ConfigTypes.Topology.{Topology}
use Rattle.acl_compile.specs.ConfigCheck.Finding.{network_named, network_numbered}
use Rattle.acl_compile.specs.ConfigCheck.Rules.{circuit_addresses}
use Rattle.acl_compile.specs.ConfigCheck.Sentences.{IsValid, IsAround, AreApart, Overlap}
use Rattle.acl_compile.proofs.ConfigCheck.Circuits.{circuits_iff}
use Rattle.acl_compile.proofs.ConfigCheck.Finders.{finds_network_named}
use Rattle.acl_compile.proofs.ConfigCheck.Iffs.{list_all_true}
use Rattle.acl_compile.proofs.ConfigCheck.Nested.{overlap_at}
use Rattle.acl_compile.proofs.ConfigCheck.OneHome.{HasBlocks, blocks_of, meet, one_home, two_among, networks_have_form}
use Rattle.transform_model.specs.IsUse.{IsUse}
use Rattle.transform_model.specs.Tables.{Row, port_row, network_rows, rows_of, row_towards, circuits_in, circuit_row, holds_port, held_subnets, subnet_rows, end_row, end_rows, hop_rows, instance_table}
use Rattle.transform_model.specs.Uses.{ConfiguredUse, Circuit, uses, first_hop, last_hop, left_circuits, right_circuits}
use Rattle.transform_model.proofs.Circuits as circuit
use Rattle.transform_model.proofs.Circuits.{left_number, right_number, lefts_differ, rights_differ, circuits_differ}
use Rattle.transform_model.proofs.InUse.{named, few_services, ends_differ, around_right, use_is, uses_differ}
use Rattle.transform_model.proofs.InUse as in_use
use Rattle.acl_compile.proofs.PolicyRules.Lists.{joined_is}
use Rattle.transform_model.proofs.Lists.{given, no_pairs, pairs_append_by, pairs_given_by, pairs_joined_by, place_within}
use Rattle.transform_model.proofs.Related.{is_around}
use Rattle.transform_model.proofs.Rows.{from_port, from_network, towards, LeftIn, RightIn, left_in, right_in, either_in, AtEnd, at_end, TowardsSubnet, towards_subnet, circuit_part, right_part, left_part, first_part, last_part, is_in}

abbrev pub Apart : Row → Row → Type 0
Apart r s = r.0.1 ≢ s.0.1

-- ---- the written form bounds numbers

pub third_of_five : (a b p d e : Bool) → IsTrue (a && b && p && d && e) → IsTrue p
third_of_five true true p d e h = (and_parts p d (and_parts (p && d) e h).0).0
third_of_five true false p d e h = cc
third_of_five false b p d e h = cc

first_of_five : (a b p d e : Bool) → IsTrue (a && b && p && d && e) → IsTrue a
first_of_five true b p d e h = refl
first_of_five false b p d e h = h

pub second_of_five : (a b p d e : Bool) → IsTrue (a && b && p && d && e) → IsTrue b
second_of_five true b p d e h = (and_parts b p (and_parts (b && p) d (and_parts (b && p && d) e h).0).0).0
second_of_five false b p d e h = cc

second_of_four : (a b p d : Bool) → IsTrue (a && b && p && d) → IsTrue b
second_of_four true b p d h = (and_parts b p (and_parts (b && p) d h).0).0
second_of_four false b p d h = cc

third_of_three : (a b d : Bool) → IsTrue (a && b && d) → IsTrue d
third_of_three true b d h = (and_parts b d h).1
third_of_three false b d h = cc

sixth_of_six : (a b d e f g : Bool) → IsTrue (a && b && d && e && f && g) → IsTrue g
sixth_of_six true true true true f g h = (and_parts f g h).1
sixth_of_six true true true false f g h = cc
sixth_of_six true true false e f g h = cc
sixth_of_six true false d e f g h = cc
sixth_of_six false b d e f g h = cc

policies_form : (c : Config) → IsTrue (has_config_form c) → All (λ p. IsTrue (has_policy_form p)) c.policies
unfolding has_config_form
policies_form c h =
    (list_all_true has_policy_form c.policies).0
    (third_of_five (list_all has_network_form c.networks) (list_all has_port_form c.ports) (list_all has_policy_form c.policies)
    (list_all has_service_form c.services) (list_all has_chain_form c.chains) h)

rules_form : (p : Policy) → IsTrue (has_policy_form p) → All (λ r. IsTrue (has_rule_form r)) p.rules
unfolding has_policy_form
rules_form p h = (list_all_true has_rule_form p.rules).0 (third_of_three (is_name p.name) (nat_le p.sequence 65535) (list_all has_rule_form p.rules) h)

action_form : (r : Rule) → IsTrue (has_rule_form r) → IsTrue (has_action_form r.action)
unfolding has_rule_form
action_form r h =
    sixth_of_six (has_end_form r.source) (has_end_form r.destination) (has_protocol_form r.protocol) (is_range r.source_ports) (is_range r.destination_ports)
    (has_action_form r.action) h

pub use_number : (c : Config) (u : ConfiguredUse) → IsTrue (has_config_form c) → IsUse c u → u.number ≤ 3071
use_number c u form h =
    let policy = All-contains (λ (p : Policy). IsTrue (has_policy_form p)) c.policies h.policy (policies_form c form) h.has_policy in
    let rule = All-contains (λ (r : Rule). IsTrue (has_rule_form r)) h.policy.rules h.rule (rules_form h.policy policy) h.has_rule in
    let action : IsTrue (has_action_form (Through h.chain u.number)) = subst (λ (a : Action). IsTrue (has_action_form a)) h.leads (action_form h.rule rule) in
    leb-true u.number 3071 (and_parts (is_name h.chain) (nat_le u.number 3071) action).1

number_of : (n : Network) → IsTrue (has_network_form n) → n.id.0 ≤ 16383
unfolding has_network_form
number_of n h =
    let range = second_of_four (is_network_name n.name) (is_from_to 1 16383 n.id.0) (list_all is_block n.subnets) (list_all is_name n.policies) h in
    leb-true n.id.0 16383 (and_parts (nat_le 1 n.id.0) (nat_le n.id.0 16383) range).1

pub network_number : (c : Config) (n : Network) → IsTrue (has_config_form c) → Contains c.networks n → n.id.0 ≤ 16383
network_number c n form within = number_of n (All-contains (λ (m : Network). IsTrue (has_network_form m)) c.networks n (networks_have_form c form) within)

ports_form : (c : Config) → IsTrue (has_config_form c) → All (λ p. IsTrue (has_port_form p)) c.ports
unfolding has_config_form
ports_form c h =
    (list_all_true has_port_form c.ports).0
    (second_of_five (list_all has_network_form c.networks) (list_all has_port_form c.ports) (list_all has_policy_form c.policies)
    (list_all has_service_form c.services) (list_all has_chain_form c.chains) h)

id_of : (p : Port) → IsTrue (has_port_form p) → p.id.0 ≤ 524271
unfolding has_port_form
id_of p h =
    leb-true p.id.0 524271 (second_of_five (is_name p.name) (nat_le p.id.0 524271) (is_name p.network) (nat_le p.address.0 0xffff_ffff) (is_name p.node) h)

pub port_number : (c : Config) (p : Port) → IsTrue (has_config_form c) → Contains c.ports p → p.id.0 ≤ 524271
port_number c p form within = id_of p (All-contains (λ (q : Port). IsTrue (has_port_form q)) c.ports p (ports_form c form) within)

-- ---- where prefixes lie

-- a subnet of a network holds the first address of a prefix
abbrev LiesIn : Network → Block → Type 0
LiesIn n p = Any (λ s. contains s p.addr ≡ true) n.subnets

subnet_lies : (n : Network) (p : Block) → Contains n.subnets p → LiesIn n p
subnet_lies n p within =
    let some : 0 < size_of p.len = pow_pos (32 - p.len) in
    any_of (λ (s : Block). contains s p.addr ≡ true) n.subnets p within (contains_from p p.addr (omega arith) (omega arith))

port_lies : (t : Topology) (c : Config) (n : Network) (p : Port) → IsValid t c → Contains c.networks n → Contains c.ports p → p.network ≡ n.name
    → LiesIn n (host_prefix p.address.0)
port_lies t c n p v in_n in_p of =
    let found : network_named c p.network ≡ Some n = ((finds_network_named t c p.network v).some n).1 (in_n, sym of) in
    let Inside : Option Network → Type 0 = λ o. IfSome o (λ m. Any (λ s. contains s p.address.0 ≡ true) m.subnets) in
    subst Inside found (All-contains (λ (q : Port). IfSome (network_named c q.network) (λ m. Any (λ s. contains s q.address.0 ≡ true) m.subnets)) c.ports p v.inside in_p)

-- no address of a circuit is in a subnet
not_reserved : (t : Topology) (c : Config) (n : Network) (number : ℕ) → IsValid t c → IsTrue (has_config_form c) → Contains c.networks n → number ≤ 131071
    → ¬ LiesIn n (host_prefix (circuit_address_of number).0)
not_reserved t c n number v form in_n few lies =
    let a : ℕ = (circuit_address_of number).0 in
    let s : Block = lies.1 in
    let within : Contains n.subnets s = (lies.0, lies.2, lies.3) in
    let blocks = All-contains HasBlocks c.networks n (blocks_of c form) in_n in
    let block : IsTrue (is_block s) = All-contains (λ (p : Block). IsTrue (is_block p)) n.subnets s blocks within in
    let far : ¬ Overlap circuit_addresses s =
    All-contains (λ (p : Block). ¬ Overlap circuit_addresses p) n.subnets s
    (All-contains (λ (m : Network). All (λ p. ¬ Overlap circuit_addresses p) m.subnets) c.networks n v.reserved in_n) within in
    far (overlap_at circuit_addresses s a refl block ((circuits_iff a).1 (omega arith, omega arith)) lies.4)

-- ---- the instance of a network

network_apart : (t : Topology) (c : Config) (n : Network) (p q : Port) (r s : Row) → IsValid t c → IsTrue (has_config_form c) → Contains c.networks n
    → Contains c.ports p → Contains c.ports q → ¬ ((p.network ≡ q.network) × (p.address.0 ≡ q.address.0))
    → port_row t c n p ≡ Some r → port_row t c n q ≡ Some s → Apart r s
network_apart t c n p q r s v form in_n in_p in_q differ from_p from_q same =
    let x = from_network t c n p r from_p in
    let y = from_network t c n q s from_q in
    let a = named c p.network x.home x.is in
    let b = named c q.network y.home y.is in
    let address : p.address.0 ≡ q.address.0 =
    ap (λ (k : Block). k.addr) (sym (ap (λ (u : Row). u.0.1) x.from.route) ∙ same ∙ ap (λ (u : Row). u.0.1) y.from.route) in
    let here = port_lies t c x.home p v a.1 in_p (sym a.0) in
    let there = subst (λ (k : ℕ). LiesIn y.home (host_prefix k)) (sym address) (port_lies t c y.home q v b.1 in_q (sym b.0)) in
    let pairs = All-contains (λ (m : Network). AllPairs (λ x y. IsAround c m x → IsAround c m y → AreApart x y) c.networks) c.networks n v.apart in_n in
    let one : x.home ≡ y.home =
    one_home c n x.home y.home p.address.0 (blocks_of c form) pairs a.1 b.1 (is_around c n x.home x.from.asks) (is_around c n y.home y.from.asks) here there in
    differ (sym a.0 ∙ ap (λ (m : Network). m.name) one ∙ b.0, address)

network_prefixes : (t : Topology) (c : Config) (n : Network) → IsValid t c → IsTrue (has_config_form c) → Contains c.networks n
    → AllPairs Apart (network_rows t c n)
unfolding network_rows
network_prefixes t c n v form in_n =
    pairs_given_by (port_row t c n) Apart (λ (p q : Port). ¬ ((p.network ≡ q.network) × (p.address.0 ≡ q.address.0))) c.ports v.addresses
    (λ p q r s in_p in_q differ from_p from_q. network_apart t c n p q r s v form in_n in_p in_q differ from_p from_q)

-- ---- the instance of a hop

pub same_hop : (number other a b : ℕ) → a ≤ 15 → b ≤ 15 → hop_instance_of number a ≡ hop_instance_of other b → (number ≡ other) × (a ≡ b)
same_hop number other a b few_a few_b same =
    let e : 16384 + 16 * number + a ≡ 16384 + 16 * other + b = ap (λ (i : InstanceId). i.0) same in
    (omega arith, omega arith)

pairs_if : (b : Bool) (rows : List Row) → AllPairs Apart rows → AllPairs Apart (cond b rows [])
pairs_if true rows h = h
pairs_if false rows h = no_pairs Apart

-- a row of a subnet or of a port of a network, in the instance of the hop at a place
record OnSide (n : Network) (i : InstanceId) (number place : ℕ) (r : Row) : Type 0 where
  at : i ≡ hop_instance_of number place
  lies : LiesIn n r.0.1

-- a row of a circuit
record OfCircuit (i : InstanceId) (u : ConfiguredUse) (r : Row) : Type 0 where
  circuit : Circuit
  side : LeftIn u i circuit ⊎ RightIn u i circuit
  prefix : r.0.1 ≡ host_prefix (circuit_address_of circuit.number).0

module _ (t : Topology) (c : Config) (v : IsValid t c) (form : IsTrue (has_config_form c)) (i : InstanceId) (u : ConfiguredUse) (used : IsUse c u) where
  few : length u.services ≤ 15
  few = few_services t c u v used

  left_low : (k : Circuit) (h : LeftIn u i k) → h.place < length u.services
  left_low k h = place_within u.services h.place k.service h.is.service

  right_low : (k : Circuit) (h : RightIn u i k) → h.place < length u.services
  right_low k h = place_within u.services h.place k.service h.is.service

  circuit_low : (k : Circuit) → LeftIn u i k ⊎ RightIn u i k → k.number ≤ 131071
  circuit_low k side =
      let number : u.number ≤ 3071 = use_number c u form used in
      let services : length u.services ≤ 15 = few in
      elim side [
        | inl h ↦
            let low = left_low k h in
            let is = left_number u h.place k h.is in
            omega arith
        | inr h ↦
            let low = right_low k h in
            let is = right_number u h.place k h.is in
            omega arith
      ]

  -- what the rows of each part are

  circuit_row_is : (r : Row) → Contains (circuit_part t i u) r → OfCircuit i u r
  circuit_row_is r h =
      let g = given (circuit_row t i) (circuits_in i (left_circuits u ++ right_circuits u)) r h in
      let to = towards t i g.0 (host_prefix (circuit_address_of g.0.number).0) r g.2 in
      record { circuit = g.0; side = either_in u i g.0 g.1; prefix = ap (λ (x : Row). x.0.1) to.route }

  subnet_row_lies : (n : Network) (ks : List Circuit) (r : Row) (h : TowardsSubnet t c i n ks r) → LiesIn n r.0.1
  subnet_row_lies n ks r h =
      subst (LiesIn n) (sym (ap (λ (x : Row). x.0.1) h.towards.route)) (subnet_lies n h.prefix h.held.has_subnet)

  record IsBefore (r : Row) : Type 0 where
    place : ℕ
    low : place < length u.services
    side : OnSide u.right i u.number place r

  right_row_is : (r : Row) → Contains (right_part t c i u) r → IsBefore r
  right_row_is r h =
      let q = towards_subnet t c i u.right (circuits_in i (left_circuits u)) r h in
      let left = left_in u i q.circuit q.there in
      record { place = left.place; low = left_low q.circuit left; side = record { at = left.at; lies = subnet_row_lies u.right (circuits_in i (left_circuits u)) r q } }

  record IsBehind (r : Row) : Type 0 where
    place : ℕ
    low : place < length u.services
    side : OnSide u.left i u.number (place + 1) r

  left_row_is : (r : Row) → Contains (left_part t c i u) r → IsBehind r
  left_row_is r h =
      let q = towards_subnet t c i u.left (circuits_in i (right_circuits u)) r h in
      let right = right_in u i q.circuit q.there in
      record { place = right.place; low = right_low q.circuit right; side = record { at = right.at; lies = subnet_row_lies u.left (circuits_in i (right_circuits u)) r q } }

  end_row_lies : (n : Network) (end : InstanceId) (r : Row) → Contains c.networks n → (h : AtEnd t c i end n r) → LiesIn n r.0.1
  end_row_lies n end r in_n h =
      subst (LiesIn n) (sym (ap (λ (x : Row). x.0.1) h.route)) (port_lies t c n h.port v in_n h.has_port h.home_of)

  first_row_is : (r : Row) → Contains (first_part t c i u) r → OnSide u.left i u.number 0 r
  first_row_is r h =
      let e = at_end t c i (first_hop u) u.left r h in
      record { at = e.at; lies = end_row_lies u.left (first_hop u) r used.has_left e }

  last_row_is : (r : Row) → Contains (last_part t c i u) r → OnSide u.right i u.number (length u.services) r
  last_row_is r h =
      let e = at_end t c i (last_hop u) u.right r h in
      record { at = e.at; lies = end_row_lies u.right (last_hop u) r used.has_right e }

  -- rows of one part

  circuits_apart : AllPairs Apart (circuit_part t i u)
  circuits_apart =
      let both : List Circuit = left_circuits u ++ right_circuits u in
      pairs_given_by (circuit_row t i) Apart circuit.Differ (circuits_in i both) (AllPairs-filter circuit.Differ (is_in i) both (circuits_differ u))
      (λ k l r s in_k in_l differ is_r is_s same.
      let a = towards t i k (host_prefix (circuit_address_of k.number).0) r is_r in
      let b = towards t i l (host_prefix (circuit_address_of l.number).0) s is_s in
      let one : 250 * 2 ^ 24 + k.number ≡ 250 * 2 ^ 24 + l.number =
      ap (λ (p : Block). p.addr) (sym (ap (λ (x : Row). x.0.1) a.route) ∙ same ∙ ap (λ (x : Row). x.0.1) b.route) in
      differ (omega arith))

  overlaps : (p q : Block) → p ≡ q → Overlap p q
  overlaps p q e = inl (λ a h. subst (λ (b : Block). IsTrue (contains b a)) e h)

  subnets_apart : (n : Network) (k : Circuit) → Contains c.networks n → AllPairs Apart (subnet_rows t c i n k)
  subnets_apart n k in_n =
      let Far : Block → Block → Type 0 = λ p q. ¬ Overlap p q in
      let flat : AllPairs Far n.subnets = All-contains (λ (m : Network). AllPairs (λ p q. ¬ Overlap p q) m.subnets) c.networks n v.flat in_n in
      pairs_given_by (row_towards t i k) Apart Far (held_subnets c n) (AllPairs-filter Far (holds_port c n) n.subnets flat)
      (λ p q r s in_p in_q far is_r is_s same.
      let a = towards t i k p r is_r in
      let b = towards t i k q s is_s in
      far (overlaps p q (sym (ap (λ (x : Row). x.0.1) a.route) ∙ same ∙ ap (λ (x : Row). x.0.1) b.route)))

  right_apart : AllPairs Apart (right_part t c i u)
  right_apart =
      pairs_joined_by (subnet_rows t c i u.right) Apart circuit.Differ (circuits_in i (left_circuits u))
      (AllPairs-filter circuit.Differ (is_in i) (left_circuits u) (lefts_differ u))
      (λ k in_k. subnets_apart u.right k used.has_right)
      (λ k l r s in_k in_l differ in_r in_s.
      let a = left_in u i k in_k in
      let b = left_in u i l in_l in
      let low_a = left_low k a in
      let low_b = left_low l b in
      let services : length u.services ≤ 15 = few in
      let same = same_hop u.number u.number a.place b.place (omega arith) (omega arith) (sym a.at ∙ b.at) in
      absurd (differ (a.is.number ∙ ap (λ (j : ℕ). left_circuit_of u.number (j + 1)) same.1 ∙ sym b.is.number)))

  left_apart : AllPairs Apart (left_part t c i u)
  left_apart =
      pairs_joined_by (subnet_rows t c i u.left) Apart circuit.Differ (circuits_in i (right_circuits u))
      (AllPairs-filter circuit.Differ (is_in i) (right_circuits u) (rights_differ u))
      (λ k in_k. subnets_apart u.left k used.has_left)
      (λ k l r s in_k in_l differ in_r in_s.
      let a = right_in u i k in_k in
      let b = right_in u i l in_l in
      let low_a = right_low k a in
      let low_b = right_low l b in
      let services : length u.services ≤ 15 = few in
      let same = same_hop u.number u.number (a.place + 1) (b.place + 1) (omega arith) (omega arith) (sym a.at ∙ b.at) in
      let place : a.place ≡ b.place = omega (arith, same.1) in
      absurd (differ (a.is.number ∙ ap (λ (j : ℕ). right_circuit_of u.number (j + 1)) place ∙ sym b.is.number)))

  ports_apart : (end : InstanceId) (n : Network) → AllPairs Apart (end_rows t c i end n)
  ports_apart end n =
      pairs_if (nat_eq i.0 end.0) (filter_map (end_row t i n) c.ports)
      (pairs_given_by (end_row t i n) Apart (λ (p q : Port). ¬ ((p.network ≡ q.network) × (p.address.0 ≡ q.address.0))) c.ports v.addresses
      (λ p q r s in_p in_q differ is_r is_s same.
      let a = from_port t i n p r (same_name p.network n.name) is_r in
      let b = from_port t i n q s (same_name q.network n.name) is_s in
      let network : p.network ≡ q.network = (same_name_iff p.network n.name).0 a.asks ∙ sym ((same_name_iff q.network n.name).0 b.asks) in
      let address : p.address.0 ≡ q.address.0 =
      ap (λ (k : Block). k.addr) (sym (ap (λ (x : Row). x.0.1) a.route) ∙ same ∙ ap (λ (x : Row). x.0.1) b.route) in
      differ (network, address)))

  -- rows of two parts

  no_circuit : (n : Network) (place : ℕ) (r s : Row) → Contains c.networks n → OfCircuit i u r → LiesIn n s.0.1 → Apart r s
  no_circuit n place r s in_n k lies same =
      not_reserved t c n k.circuit.number v form in_n (circuit_low k.circuit k.side) (subst (LiesIn n) (sym same ∙ k.prefix) lies)

  no_both : (r s : Row) → LiesIn u.left r.0.1 → LiesIn u.right s.0.1 → Apart r s
  no_both r s in_left in_right same =
      let blocks = blocks_of c form in
      let left_blocks : HasBlocks u.left = All-contains HasBlocks c.networks u.left blocks used.has_left in
      let right_blocks : HasBlocks u.right = All-contains HasBlocks c.networks u.right blocks used.has_right in
      let there : LiesIn u.right r.0.1 = subst (LiesIn u.right) (sym same) in_right in
      let Far : Network → Network → Type 0 = λ x y. IsAround c u.left x → IsAround c u.left y → AreApart x y in
      let pairs : AllPairs Far c.networks = All-contains (λ (m : Network). AllPairs (λ x y. IsAround c m x → IsAround c m y → AreApart x y) c.networks) c.networks u.left v.apart used.has_left in
      let around_left : IsAround c u.left u.left = inl refl in
      let around : IsAround c u.left u.right = around_right t c u v used in
      elim (two_among Far c.networks u.left u.right pairs used.has_left used.has_right) [
        | inl one ↦ ends_differ t c u v used (ap (λ (n : Network). n.name) one)
        | inr other ↦ elim other [
          | inl far ↦ meet u.left u.right r.0.1.addr left_blocks right_blocks in_left there (far around_left around)
          | inr far ↦ meet u.right u.left r.0.1.addr right_blocks left_blocks there in_left (far around around_left)
        ]
      ]

  flip : (r s : Row) → Apart s r → Apart r s
  flip r s h same = h (sym same)

  hop_prefixes : AllPairs Apart (hop_rows t c i u)
  hop_prefixes =
      let services : length u.services ≤ 15 = few in
      let first : List Row = first_part t c i u in
      let last : List Row = last_part t c i u in
      let left : List Row = left_part t c i u in
      let right : List Row = right_part t c i u in
      let ends : AllPairs Apart (first ++ last) =
      pairs_append_by Apart first last (ports_apart (first_hop u) u.left) (ports_apart (last_hop u) u.right)
      (λ r s in_r in_s. no_both r s (first_row_is r in_r).lies (last_row_is s in_s).lies) in
      let after_left : AllPairs Apart (left ++ (first ++ last)) =
      pairs_append_by Apart left (first ++ last) left_apart ends
      (λ r s in_r in_s.
      let b = left_row_is r in_r in
      elim (Contains-append_cases first last s in_s) [
        | inl start ↦
            let at : i ≡ hop_instance_of u.number 0 = (first_row_is s start).at in
            let low = b.low in
            let place = (same_hop u.number u.number (b.place + 1) 0 (omega arith) (omega arith) (sym b.side.at ∙ at)).1 in
            absurd (omega (arith, place))
        | inr end ↦ no_both r s b.side.lies (last_row_is s end).lies
      ]) in
      let after_right : AllPairs Apart (right ++ (left ++ (first ++ last))) =
      pairs_append_by Apart right (left ++ (first ++ last)) right_apart after_left
      (λ r s in_r in_s.
      let b = right_row_is r in_r in
      elim (Contains-append_cases left (first ++ last) s in_s) [
        | inl back ↦ flip r s (no_both s r (left_row_is s back).side.lies b.side.lies)
        | inr rest ↦ elim (Contains-append_cases first last s rest) [
          | inl start ↦ flip r s (no_both s r (first_row_is s start).lies b.side.lies)
          | inr end ↦
              let at : i ≡ hop_instance_of u.number (length u.services) = (last_row_is s end).at in
              let low = b.low in
              let place = (same_hop u.number u.number b.place (length u.services) (omega arith) (omega arith) (sym b.side.at ∙ at)).1 in
              absurd (omega (arith, place))
        ]
      ]) in
      pairs_append_by Apart (circuit_part t i u) (right ++ (left ++ (first ++ last))) circuits_apart after_right
      (λ r s in_r in_s.
      let k = circuit_row_is r in_r in
      elim (Contains-append_cases right (left ++ (first ++ last)) s in_s) [
        | inl on ↦ no_circuit u.right 0 r s used.has_right k (right_row_is s on).side.lies
        | inr more ↦ elim (Contains-append_cases left (first ++ last) s more) [
          | inl back ↦ no_circuit u.left 0 r s used.has_left k (left_row_is s back).side.lies
          | inr rest ↦ elim (Contains-append_cases first last s rest) [
            | inl start ↦ no_circuit u.left 0 r s used.has_left k (first_row_is s start).lies
            | inr end ↦ no_circuit u.right 0 r s used.has_right k (last_row_is s end).lies
          ]
        ]
      ])

  -- an instance that has a row of a use is a hop of it
  pub record IsHop : Type 0 where
    pub place : ℕ
    pub low : place ≤ length u.services
    pub at : i ≡ hop_instance_of u.number place

  pub hop_is : (r : Row) → Contains (hop_rows t c i u) r → IsHop
  hop_is r h =
      let first : List Row = first_part t c i u in
      let last : List Row = last_part t c i u in
      let left : List Row = left_part t c i u in
      let right : List Row = right_part t c i u in
      elim (Contains-append_cases (circuit_part t i u) (right ++ (left ++ (first ++ last))) r h) [
        | inl host ↦
            let k = circuit_row_is r host in
            elim k.side [
              | inl l ↦ let low = left_low k.circuit l in record { place = l.place; low = omega arith; at = l.at }
              | inr l ↦ let low = right_low k.circuit l in record { place = l.place + 1; low = omega arith; at = l.at }
            ]
        | inr after ↦ elim (Contains-append_cases right (left ++ (first ++ last)) r after) [
          | inl on ↦ let b = right_row_is r on in let low = b.low in record { place = b.place; low = omega arith; at = b.side.at }
          | inr more ↦ elim (Contains-append_cases left (first ++ last) r more) [
            | inl back ↦ let b = left_row_is r back in let low = b.low in record { place = b.place + 1; low = omega arith; at = b.side.at }
            | inr rest ↦ elim (Contains-append_cases first last r rest) [
              | inl start ↦ record { place = 0; low = omega arith; at = (first_row_is r start).at }
              | inr end ↦ record { place = length u.services; low = omega arith; at = (last_row_is r end).at }
            ]
          ]
        ]
      ]

-- ---- every instance

module _ (t : Topology) (c : Config) (v : IsValid t c) (form : IsTrue (has_config_form c)) (i : InstanceId) where
  uses_apart : AllPairs Apart (flat_map (hop_rows t c i) (uses c))
  uses_apart =
      pairs_joined_by (hop_rows t c i) Apart in_use.Differ (uses c) (uses_differ t c v) (λ u in_u. hop_prefixes t c v form i u (use_is c u in_u))
      (λ u w r s in_u in_w differ in_r in_s.
      let used = use_is c u in_u in
      let used_w = use_is c w in_w in
      let a = hop_is t c v form i u used r in_r in
      let b = hop_is t c v form i w used_w s in_s in
      let few_a = few_services t c u v used in
      let few_b = few_services t c w v used_w in
      let low_a = a.low in
      let low_b = b.low in
      absurd (differ (same_hop u.number w.number a.place b.place (omega arith) (omega arith) (sym a.at ∙ b.at)).0))

  network_part : (o : Option Network) → network_numbered c i.0 ≡ o → AllPairs Apart (rows_of t c o)
  network_part None e = no_pairs Apart
  network_part (Some n) e = network_prefixes t c n v form (found_is (λ (m : Network). nat_eq m.id.0 i.0) c.networks n e).1

  -- a network's instance is no hop
  apart_from : (o : Option Network) → network_numbered c i.0 ≡ o → (r s : Row) → Contains (rows_of t c o) r → Contains (flat_map (hop_rows t c i) (uses c)) s → Apart r s
  apart_from None e r s in_r in_s = absurd (omega (arith, in_r.1))
  apart_from (Some n) e r s in_r in_s =
      let f = found_is (λ (m : Network). nat_eq m.id.0 i.0) c.networks n e in
      let q = joined_is (hop_rows t c i) (uses c) s in_s in
      let hop = hop_is t c v form i q.0 (use_is c q.0 q.1) s q.2 in
      let number : n.id.0 ≡ i.0 = eqb-true n.id.0 i.0 f.0 in
      let low : n.id.0 ≤ 16383 = network_number c n form f.1 in
      let is : i.0 ≡ 16384 + 16 * q.0.number + hop.place = ap (λ (k : InstanceId). k.0) hop.at in
      absurd (omega arith)

  pub table_prefixes : AllPairs Apart (instance_table t c i)
  table_prefixes =
      pairs_append_by Apart (rows_of t c (network_numbered c i.0)) (flat_map (hop_rows t c i) (uses c))
      (network_part (network_numbered c i.0) refl) uses_apart (apart_from (network_numbered c i.0) refl)
