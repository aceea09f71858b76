-- What breaks a rule is refused by that rule, or by an earlier one.
use Rattle.std.proofs.Common.{◌&&◌, ◌≡◌, ◌==◌, ◌||◌, ◌≤◌, ◌++◌, ℕ, Bool, true, false, cond, leb, List, [], ◌∷◌, Option, Some, None, option_map, is_none, IfSome, find, filter, length, map, refl, arith}
use Rattle.std.specs.List.{list_any, list_all}
use Rattle.ov_types.specs.Prefix.{Block}
use Rattle.ov_types.specs.First.{same_name, ◌<|>◌, first_of, first_meeting}
use Rattle.config_types.specs.declared.config.Action.{Action}
use Rattle.config_types.specs.declared.config.Action.TheVariants.{Pass, Deny, Through}
use Rattle.config_types.specs.declared.config.Chain.{Chain}
use Rattle.config_types.specs.declared.config.Config.{Config}
use Rattle.config_types.specs.declared.config.End.{End}
use Rattle.config_types.specs.declared.config.End.TheVariants as Ends
use Rattle.config_types.specs.declared.config.Network.{Network}
use Rattle.config_types.specs.declared.config.Port.{Port}
use Rattle.config_types.specs.declared.config.Service.{Service}
use Rattle.config_types.specs.declared.topology.Topology.{Topology}
use Rattle.chain_expand.specs.Expansion.{loops, loop_of, expansion, same_number}
use Rattle.config_check.specs.declared.refusal.IdKind.{IdKind}
use Rattle.config_check.specs.declared.refusal.IdKind.TheVariants as Id
use Rattle.config_check.specs.declared.refusal.LimitKind.{LimitKind}
use Rattle.config_check.specs.declared.refusal.LimitKind.TheVariants as Counted
use Rattle.config_check.specs.declared.refusal.Refusal.{Refusal}
use Rattle.config_check.specs.declared.refusal.Refusal.TheVariants.{Limit, DuplicateName, DuplicateId, BadReference, SubnetReserved, SubnetNested, AddressOutside, AddressTaken, ChainNeedsNetworks, ChainSameNetwork, ChainLoop, ChainTooLong, ServiceTwice, SubnetOverlap}
use Rattle.policy_rules.specs.declared.numbered.NumberedRule.{NumberedRule}
use Rattle.policy_rules.specs.Related.{all_rules, are_related}
use Rattle.config_check.specs.Rules.{limit_unless, broken_count, broken_part, broken_limit, repeated_name, repeated_controller, broken_name, repeated_id, use_numbers, broken_id, controller_names, node_names, network_names, port_names, policy_names, service_names, chain_names, missing, missing_end, missing_chain, missing_in_node, missing_in_network, missing_in_port, missing_in_rule, missing_in_service, missing_in_chain, broken_reference, overlap, circuit_addresses, reserved_in, broken_reserved, nested_in, broken_nested, is_outside, broken_outside, share_address, broken_taken, lacks_network, broken_needs, turns_back, broken_same, broken_loop, is_too_long, broken_long, twice_in, broken_twice, share_addresses, overlapping, overlapping_around, broken_overlap, broken_place, broken_use, broken_chain, first_broken}
use Rattle.config_check.proofs.EachRule.{limits_iff, names_iff, numbers_iff, references_iff, reserved_iff, flat_iff, holds_iff, addresses_iff, ends_named_iff, two_named_iff, straight_iff, short_iff, once_iff, apart_around_iff}
use Rattle.config_refusal_laws.specs.Breaks.{Breaks}
use Rattle.config_refusal_laws.specs.Order.{rule_number, IsBrokenBy}
use Rattle.ov_types.proofs.FirstLemmas.{of_either, of_mapped, of_first}
use Rattle.config_refusal_laws.proofs.Invalid.{against_limit, against_name, against_id, against_reference, against_reserved, against_nested, against_outside, against_taken, against_needs, against_same, against_loop, against_long, against_twice, against_overlaps}

-- a refusal speaks of this rule or of an earlier one
abbrev pub IsBy : ℕ → Refusal → Type 0
IsBy n r = rule_number r ≤ n

-- each rule answers refusals of its own number

six : (P : Refusal → Type 0) (a b c d e f : Option Refusal) → IfSome a P → IfSome b P → IfSome c P → IfSome d P → IfSome e P → IfSome f P
    → IfSome (a <|> (b <|> (c <|> (d <|> (e <|> f))))) P
six P a b c d e f ha hb hc hd he hf =
    of_either P a (b <|> (c <|> (d <|> (e <|> f)))) ha
    (of_either P b (c <|> (d <|> (e <|> f))) hb
    (of_either P c (d <|> (e <|> f)) hc
    (of_either P d (e <|> f) hd
    (of_either P e f he hf))))

limit_by : (n : ℕ) → 1 ≤ n → (what : LimitKind) (b : Bool) (rest : Option Refusal) → IfSome rest (IsBy n) → IfSome (limit_unless what b <|> rest) (IsBy n)
limit_by n le what true rest h = h
limit_by n le what false rest h = le

last_by : (n : ℕ) → 1 ≤ n → (what : LimitKind) (b : Bool) → IfSome (limit_unless what b) (IsBy n)
last_by n le what true = tt
last_by n le what false = le

seven_by : (n : ℕ) → 1 ≤ n → (b1 b2 b3 b4 b5 b6 b7 : Bool)
    → IfSome (limit_unless Counted.Controllers b1 <|> (limit_unless Counted.Nodes b2 <|> (limit_unless Counted.Networks b3 <|> (limit_unless Counted.Ports b4
    <|> (limit_unless Counted.Policies b5 <|> (limit_unless Counted.Services b6 <|> limit_unless Counted.Chains b7)))))) (IsBy n)
seven_by n le b1 b2 b3 b4 b5 b6 b7 =
    let r6 : Option Refusal = limit_unless Counted.Services b6 <|> limit_unless Counted.Chains b7 in
    let r5 : Option Refusal = limit_unless Counted.Policies b5 <|> r6 in
    let r4 : Option Refusal = limit_unless Counted.Ports b4 <|> r5 in
    let r3 : Option Refusal = limit_unless Counted.Networks b3 <|> r4 in
    let r2 : Option Refusal = limit_unless Counted.Nodes b2 <|> r3 in
    limit_by n le Counted.Controllers b1 r2
    (limit_by n le Counted.Nodes b2 r3
    (limit_by n le Counted.Networks b3 r4
    (limit_by n le Counted.Ports b4 r5
    (limit_by n le Counted.Policies b5 r6
    (limit_by n le Counted.Services b6 (limit_unless Counted.Chains b7) (last_by n le Counted.Chains b7))))))

four_by : (n : ℕ) → 1 ≤ n → (b1 b2 b3 b4 : Bool)
    → IfSome (limit_unless Counted.Subnets b1 <|> (limit_unless Counted.Attachments b2 <|> (limit_unless Counted.Rules b3 <|> limit_unless Counted.Hops b4))) (IsBy n)
four_by n le b1 b2 b3 b4 =
    let r3 : Option Refusal = limit_unless Counted.Rules b3 <|> limit_unless Counted.Hops b4 in
    let r2 : Option Refusal = limit_unless Counted.Attachments b2 <|> r3 in
    limit_by n le Counted.Subnets b1 r2
    (limit_by n le Counted.Attachments b2 r3
    (limit_by n le Counted.Rules b3 (limit_unless Counted.Hops b4) (last_by n le Counted.Hops b4)))

limits_by : (n : ℕ) → 1 ≤ n → (t : Topology) (c : Config) → IfSome (broken_limit t c) (IsBy n)
unfolding broken_limit
limits_by n le t c =
    of_either (IsBy n) (broken_count t c) (broken_part c)
    (seven_by n le (leb (length t.controllers) 8) (leb 1 (length t.nodes) && leb (length t.nodes) 64) (leb (length c.networks) 128) (leb (length c.ports) 1024)
    (leb (length c.policies) 128) (leb (length c.services) 128) (leb (length c.chains) 128))
    (four_by n le (list_all (λ n. leb (length n.subnets) 4) c.networks) (list_all (λ n. leb (length n.policies) 4) c.networks)
    (list_all (λ p. leb (length p.rules) 16) c.policies) (list_all (λ d. leb (length d.hops) 64) c.chains))

name_by : (n : ℕ) → 2 ≤ n → (names : List (List ℕ)) → IfSome (repeated_name names) (IsBy n)
name_by n le names = of_mapped (IsBy n) (λ (m : List ℕ × List ℕ). DuplicateName m.1) (first_meeting same_name names) (λ m e. le)

names_by : (n : ℕ) → 2 ≤ n → (t : Topology) (c : Config) → IfSome (broken_name t c) (IsBy n)
unfolding broken_name
names_by n le t c =
    six (IsBy n) (repeated_name (controller_names t ++ node_names t)) (repeated_name (network_names c)) (repeated_name (port_names c))
    (repeated_name (policy_names c)) (repeated_name (service_names c ++ chain_names c)) (first_of repeated_controller t.nodes)
    (name_by n le (controller_names t ++ node_names t)) (name_by n le (network_names c)) (name_by n le (port_names c))
    (name_by n le (policy_names c)) (name_by n le (service_names c ++ chain_names c))
    (of_first (IsBy n) repeated_controller t.nodes (λ d inside. name_by n le d.controllers))

number_by : (n : ℕ) → 3 ≤ n → (what : IdKind) (ids : List ℕ) → IfSome (repeated_id what ids) (IsBy n)
number_by n le what ids = of_mapped (IsBy n) (λ (m : ℕ × ℕ). DuplicateId what m.1) (first_meeting (λ a b. a == b) ids) (λ m e. le)

numbers_by : (n : ℕ) → 3 ≤ n → (t : Topology) (c : Config) → IfSome (broken_id t c) (IsBy n)
unfolding broken_id
numbers_by n le t c =
    let addresses : List ℕ = map (λ n. n.address.0) t.controllers ++ map (λ n. n.address.0) t.nodes in
    let networks : List ℕ = map (λ n. n.id.0) c.networks in
    let ports : List ℕ = map (λ p. p.id.0) c.ports in
    let sequences : List ℕ = map (λ p. p.sequence) c.policies in
    let services : List ℕ = map (λ s. s.id.0) c.services in
    six (IsBy n) (repeated_id Id.Address addresses) (repeated_id Id.Network networks) (repeated_id Id.Port ports)
    (repeated_id Id.Sequence sequences) (repeated_id Id.Service services) (repeated_id Id.Use (use_numbers c))
    (number_by n le Id.Address addresses) (number_by n le Id.Network networks) (number_by n le Id.Port ports)
    (number_by n le Id.Sequence sequences) (number_by n le Id.Service services) (number_by n le Id.Use (use_numbers c))

unless_by : (P : Refusal → Type 0) (b : Bool) (r : Refusal) → P r → IfSome (cond b None (Some r)) P
unless_by P true r h = tt
unless_by P false r h = h

missing_by : (n : ℕ) → 4 ≤ n → (names : List (List ℕ)) (name : List ℕ) → IfSome (missing names name) (IsBy n)
missing_by n le names name = unless_by (IsBy n) (list_any (same_name name) names) (BadReference name) le

end_by : (n : ℕ) → 4 ≤ n → (names : List (List ℕ)) (e : End) → IfSome (missing_end names e) (IsBy n)
end_by n le names Ends.Any = tt
end_by n le names (Ends.Named name) = missing_by n le names name

chain_by : (n : ℕ) → 4 ≤ n → (names : List (List ℕ)) (a : Action) → IfSome (missing_chain names a) (IsBy n)
chain_by n le names Pass = tt
chain_by n le names Deny = tt
chain_by n le names (Through name use_no) = missing_by n le names name

some_by : (n : ℕ) → 4 ≤ n → (names wanted : List (List ℕ)) → IfSome (first_of (missing names) wanted) (IsBy n)
some_by n le names wanted = of_first (IsBy n) (missing names) wanted (λ name inside. missing_by n le names name)

port_by : (n : ℕ) → 4 ≤ n → (networks nodes : List (List ℕ)) (p : Port) → IfSome (missing_in_port networks nodes p) (IsBy n)
port_by n le networks nodes p = of_either (IsBy n) (missing networks p.network) (missing nodes p.node) (missing_by n le networks p.network) (missing_by n le nodes p.node)

rule_by : (n : ℕ) → 4 ≤ n → (networks chains : List (List ℕ)) (r : NumberedRule) → IfSome (missing_in_rule networks chains r) (IsBy n)
rule_by n le networks chains r =
    let second : Option Refusal = missing_end networks r.rule.destination in
    let third : Option Refusal = missing_chain chains r.rule.action in
    of_either (IsBy n) (missing_end networks r.rule.source) (second <|> third) (end_by n le networks r.rule.source)
    (of_either (IsBy n) second third (end_by n le networks r.rule.destination) (chain_by n le chains r.rule.action))

references_by : (n : ℕ) → 4 ≤ n → (t : Topology) (c : Config) → IfSome (broken_reference t c) (IsBy n)
unfolding broken_reference
references_by n le t c =
    let hops : List (List ℕ) = service_names c ++ chain_names c in
    six (IsBy n) (first_of (missing_in_node (controller_names t)) t.nodes) (first_of (missing_in_network (policy_names c)) c.networks)
    (first_of (missing_in_port (network_names c) (node_names t)) c.ports) (first_of (missing_in_rule (network_names c) (chain_names c)) (all_rules c))
    (first_of (missing_in_service (node_names t)) c.services) (first_of (missing_in_chain hops) c.chains)
    (of_first (IsBy n) (missing_in_node (controller_names t)) t.nodes (λ d inside. some_by n le (controller_names t) d.controllers))
    (of_first (IsBy n) (missing_in_network (policy_names c)) c.networks (λ d inside. some_by n le (policy_names c) d.policies))
    (of_first (IsBy n) (missing_in_port (network_names c) (node_names t)) c.ports (λ p inside. port_by n le (network_names c) (node_names t) p))
    (of_first (IsBy n) (missing_in_rule (network_names c) (chain_names c)) (all_rules c) (λ r inside. rule_by n le (network_names c) (chain_names c) r))
    (of_first (IsBy n) (missing_in_service (node_names t)) c.services (λ s inside. missing_by n le (node_names t) s.node))
    (of_first (IsBy n) (missing_in_chain hops) c.chains (λ d inside. some_by n le hops d.hops))

reserved_by : (n : ℕ) → 5 ≤ n → (c : Config) → IfSome (broken_reserved c) (IsBy n)
unfolding broken_reserved
reserved_by n le c =
    of_first (IsBy n) reserved_in c.networks
    (λ m inside. of_mapped (IsBy n) (λ (p : Block). SubnetReserved m.name p) (find (overlap circuit_addresses) m.subnets) (λ p e. le))

nested_by : (n : ℕ) → 6 ≤ n → (c : Config) → IfSome (broken_nested c) (IsBy n)
unfolding broken_nested
nested_by n le c =
    of_first (IsBy n) nested_in c.networks
    (λ m inside. of_mapped (IsBy n) (λ (p : Block × Block). SubnetNested m.name p.0 p.1) (first_meeting overlap m.subnets) (λ p e. le))

outside_by : (n : ℕ) → 7 ≤ n → (c : Config) → IfSome (broken_outside c) (IsBy n)
unfolding broken_outside
outside_by n le c = of_mapped (IsBy n) (λ (p : Port). AddressOutside p.name) (find (is_outside c) c.ports) (λ p e. le)

taken_by : (n : ℕ) → 8 ≤ n → (c : Config) → IfSome (broken_taken c) (IsBy n)
unfolding broken_taken
taken_by n le c = of_mapped (IsBy n) (λ (m : Port × Port). AddressTaken m.0.name m.1.name) (first_meeting share_address c.ports) (λ m e. le)

needs_by : (n : ℕ) → 9 ≤ n → (rules : List NumberedRule) → IfSome (broken_needs rules) (IsBy n)
unfolding broken_needs
needs_by n le rules = of_mapped (IsBy n) (λ (r : NumberedRule). ChainNeedsNetworks r.number) (find (λ r. lacks_network r.rule) rules) (λ r e. le)

same_by : (n : ℕ) → 10 ≤ n → (rules : List NumberedRule) → IfSome (broken_same rules) (IsBy n)
unfolding broken_same
same_by n le rules = of_mapped (IsBy n) (λ (r : NumberedRule). ChainSameNetwork r.number) (find (λ r. turns_back r.rule) rules) (λ r e. le)

loop_by : (n : ℕ) → 11 ≤ n → (c : Config) → IfSome (broken_loop c) (IsBy n)
unfolding broken_loop
loop_by n le c = of_mapped (IsBy n) (λ (d : Chain). ChainLoop d.name) (find (λ d. loops c d.name) c.chains) (λ d e. le)

long_by : (n : ℕ) → 12 ≤ n → (c : Config) → IfSome (broken_long c) (IsBy n)
unfolding broken_long
long_by n le c = of_mapped (IsBy n) (λ (d : Chain). ChainTooLong d.name) (find (is_too_long c) c.chains) (λ d e. le)

if_by : (P : Refusal → Type 0) (b : Bool) (o : Option Refusal) → IfSome o P → IfSome (cond b o None) P
if_by P true o h = h
if_by P false o h = tt

twice_by : (n : ℕ) → 13 ≤ n → (c : Config) → IfSome (broken_twice c) (IsBy n)
unfolding broken_twice
twice_by n le c =
    of_first (IsBy n) (twice_in c) c.chains
    (λ d inside.
    let says : Service × Service → Refusal = λ m. ServiceTwice d.name m.1.name in
    let pair : Option (Service × Service) = first_meeting same_number (expansion c d.name) in
    if_by (IsBy n) (is_none (loop_of c d.name)) (option_map says pair) (of_mapped (IsBy n) says pair (λ m e. le)))

overlapping_by : (n : ℕ) → 14 ≤ n → (xs : List Network) → IfSome (overlapping xs) (IsBy n)
overlapping_by n le [] = tt
overlapping_by n le (a ∷ bs) =
    let says : Network → Refusal = λ b. SubnetOverlap a.name b.name in
    of_either (IsBy n) (option_map says (find (share_addresses a) bs)) (overlapping bs)
    (of_mapped (IsBy n) says (find (share_addresses a) bs) (λ b e. le)) (overlapping_by n le bs)

overlaps_by : (n : ℕ) → 14 ≤ n → (c : Config) → IfSome (broken_overlap c) (IsBy n)
unfolding broken_overlap
overlaps_by n le c =
    of_first (IsBy n) (overlapping_around c) c.networks
    (λ m inside. overlapping_by n le (filter (λ x. same_name x.name m.name || are_related c m x) c.networks))

-- answers in a row

-- a rule that is broken answers
hit : (n : ℕ) (a : Option Refusal) → IfSome a (IsBy n) → (a ≡ None → ⊥) → IsBrokenBy n a
hit n None low never = absurd (never refl)
hit n (Some r) low never = low

-- the first answer, where it is early enough, else what comes after it
then_by : (n : ℕ) (a b : Option Refusal) → IfSome a (IsBy n) → (a ≡ None → IsBrokenBy n b) → IsBrokenBy n (a <|> b)
then_by n None b low next = next refl
then_by n (Some r) b low next = low

front_by : (n : ℕ) (a b : Option Refusal) → IsBrokenBy n a → IsBrokenBy n (a <|> b)
front_by n None b h = absurd h
front_by n (Some r) b h = h

module _ (t : Topology) (c : Config) where
  abbrev after_use : Option Refusal
  after_use = broken_chain c <|> broken_overlap c

  abbrev after_place : Option Refusal
  after_place = broken_use (all_rules c) <|> after_use

  abbrev after_reference : Option Refusal
  after_reference = broken_place c <|> after_place

  abbrev after_id : Option Refusal
  after_id = broken_reference t c <|> after_reference

  abbrev after_name : Option Refusal
  after_name = broken_id t c <|> after_id

  abbrev after_limit : Option Refusal
  after_limit = broken_name t c <|> after_name

  whole : (n : ℕ) → IsBrokenBy n (broken_limit t c <|> after_limit) → IsBrokenBy n (first_broken t c)
  unfolding first_broken
  whole n h = h

  past_limit : (n : ℕ) → 1 ≤ n → IsBrokenBy n after_limit → IsBrokenBy n (first_broken t c)
  past_limit n le h = whole n (then_by n (broken_limit t c) after_limit (limits_by n le t c) (λ e. h))

  past_name : (n : ℕ) → 2 ≤ n → IsBrokenBy n after_name → IsBrokenBy n (first_broken t c)
  past_name n le h = past_limit n (omega arith) (then_by n (broken_name t c) after_name (names_by n le t c) (λ e. h))

  past_id : (n : ℕ) → 3 ≤ n → IsBrokenBy n after_id → IsBrokenBy n (first_broken t c)
  past_id n le h = past_name n (omega arith) (then_by n (broken_id t c) after_id (numbers_by n le t c) (λ e. h))

  past_reference : (n : ℕ) → 4 ≤ n → IsBrokenBy n after_reference → IsBrokenBy n (first_broken t c)
  past_reference n le h = past_id n (omega arith) (then_by n (broken_reference t c) after_reference (references_by n le t c) (λ e. h))

  at_place : (n : ℕ) → 4 ≤ n → IsBrokenBy n (broken_place c) → IsBrokenBy n (first_broken t c)
  at_place n le h = past_reference n le (front_by n (broken_place c) after_place h)

  past_place : (n : ℕ) → 8 ≤ n → IsBrokenBy n after_place → IsBrokenBy n (first_broken t c)
  past_place n le h =
      let taken : Option Refusal = broken_taken c in
      let outside : Option Refusal = broken_outside c <|> taken in
      let nested : Option Refusal = broken_nested c <|> outside in
      past_reference n (omega arith) (then_by n (broken_place c) after_place
      (of_either (IsBy n) (broken_reserved c) nested (reserved_by n (omega arith) c)
      (of_either (IsBy n) (broken_nested c) outside (nested_by n (omega arith) c)
      (of_either (IsBy n) (broken_outside c) taken (outside_by n (omega arith) c) (taken_by n le c)))) (λ e. h))

  at_use : (n : ℕ) → 8 ≤ n → IsBrokenBy n (broken_use (all_rules c)) → IsBrokenBy n (first_broken t c)
  at_use n le h = past_place n le (front_by n (broken_use (all_rules c)) after_use h)

  past_use : (n : ℕ) → 10 ≤ n → IsBrokenBy n after_use → IsBrokenBy n (first_broken t c)
  past_use n le h =
      past_place n (omega arith) (then_by n (broken_use (all_rules c)) after_use
      (of_either (IsBy n) (broken_needs (all_rules c)) (broken_same (all_rules c)) (needs_by n (omega arith) (all_rules c)) (same_by n le (all_rules c))) (λ e. h))

  at_chain : (n : ℕ) → 10 ≤ n → IsBrokenBy n (broken_chain c) → IsBrokenBy n (first_broken t c)
  at_chain n le h = past_use n le (front_by n (broken_chain c) (broken_overlap c) h)

  past_chain : (n : ℕ) → 13 ≤ n → IsBrokenBy n (broken_overlap c) → IsBrokenBy n (first_broken t c)
  past_chain n le h =
      let after_loop : Option Refusal = broken_long c <|> broken_twice c in
      past_use n (omega arith) (then_by n (broken_chain c) (broken_overlap c)
      (of_either (IsBy n) (broken_loop c) after_loop (loop_by n (omega arith) c)
      (of_either (IsBy n) (broken_long c) (broken_twice c) (long_by n (omega arith) c) (twice_by n le c))) (λ e. h))

  pub in_order : (r : Refusal) → Breaks t c r → IsBrokenBy (rule_number r) (first_broken t c)
  in_order (Limit what) h =
      whole 1 (front_by 1 (broken_limit t c) after_limit (hit 1 (broken_limit t c) (limits_by 1 (omega arith) t c)
      (λ e. against_limit t c what ((limits_iff t c).0 e) h)))
  in_order (DuplicateName name) h =
      past_limit 2 (omega arith) (front_by 2 (broken_name t c) after_name (hit 2 (broken_name t c) (names_by 2 (omega arith) t c)
      (λ e. against_name t c name ((names_iff t c).0 e) h)))
  in_order (DuplicateId what id) h =
      past_name 3 (omega arith) (front_by 3 (broken_id t c) after_id (hit 3 (broken_id t c) (numbers_by 3 (omega arith) t c)
      (λ e. against_id t c what id ((numbers_iff t c).0 e) h)))
  in_order (BadReference name) h =
      past_id 4 (omega arith) (front_by 4 (broken_reference t c) after_reference (hit 4 (broken_reference t c) (references_by 4 (omega arith) t c)
      (λ e. against_reference t c name ((references_iff t c).0 e) h)))
  in_order (SubnetReserved network prefix) h =
      at_place 5 (omega arith) (front_by 5 (broken_reserved c) (broken_nested c <|> (broken_outside c <|> broken_taken c))
      (hit 5 (broken_reserved c) (reserved_by 5 (omega arith) c)
      (λ e. against_reserved t c network prefix ((reserved_iff c).0 e) h)))
  in_order (SubnetNested network first second) h =
      at_place 6 (omega arith) (then_by 6 (broken_reserved c) (broken_nested c <|> (broken_outside c <|> broken_taken c)) (reserved_by 6 (omega arith) c) (λ kept.
      front_by 6 (broken_nested c) (broken_outside c <|> broken_taken c)
      (hit 6 (broken_nested c) (nested_by 6 (omega arith) c)
      (λ e. against_nested t c network first second ((flat_iff c).0 e) h))))
  in_order (AddressOutside port) h =
      at_place 7 (omega arith) (then_by 7 (broken_reserved c) (broken_nested c <|> (broken_outside c <|> broken_taken c)) (reserved_by 7 (omega arith) c) (λ kept.
      then_by 7 (broken_nested c) (broken_outside c <|> broken_taken c) (nested_by 7 (omega arith) c) (λ flat.
      front_by 7 (broken_outside c) (broken_taken c)
      (hit 7 (broken_outside c) (outside_by 7 (omega arith) c)
      (λ e. against_outside t c port ((holds_iff c).0 e) h)))))
  in_order (AddressTaken first second) h =
      at_place 8 (omega arith) (then_by 8 (broken_reserved c) (broken_nested c <|> (broken_outside c <|> broken_taken c)) (reserved_by 8 (omega arith) c) (λ kept.
      then_by 8 (broken_nested c) (broken_outside c <|> broken_taken c) (nested_by 8 (omega arith) c) (λ flat.
      then_by 8 (broken_outside c) (broken_taken c) (outside_by 8 (omega arith) c) (λ inside.
      hit 8 (broken_taken c) (taken_by 8 (omega arith) c)
      (λ e. against_taken t c first second ((addresses_iff c).0 e) h)))))
  in_order (ChainNeedsNetworks rule) h =
      at_use 9 (omega arith) (front_by 9 (broken_needs (all_rules c)) (broken_same (all_rules c))
      (hit 9 (broken_needs (all_rules c)) (needs_by 9 (omega arith) (all_rules c))
      (λ e. against_needs t c rule ((ends_named_iff (all_rules c)).0 e) h)))
  in_order (ChainSameNetwork rule) h =
      at_use 10 (omega arith) (then_by 10 (broken_needs (all_rules c)) (broken_same (all_rules c)) (needs_by 10 (omega arith) (all_rules c)) (λ named.
      hit 10 (broken_same (all_rules c)) (same_by 10 (omega arith) (all_rules c))
      (λ e. against_same t c rule ((two_named_iff (all_rules c)).0 e) h)))
  in_order (ChainLoop chain) h =
      at_chain 11 (omega arith) (front_by 11 (broken_loop c) (broken_long c <|> broken_twice c)
      (hit 11 (broken_loop c) (loop_by 11 (omega arith) c)
      (λ e. against_loop t c chain ((straight_iff c).0 e) h)))
  in_order (ChainTooLong chain) h =
      at_chain 12 (omega arith) (then_by 12 (broken_loop c) (broken_long c <|> broken_twice c) (loop_by 12 (omega arith) c) (λ straight.
      front_by 12 (broken_long c) (broken_twice c)
      (hit 12 (broken_long c) (long_by 12 (omega arith) c)
      (λ e. against_long t c chain ((short_iff c straight).0 e) h))))
  in_order (ServiceTwice chain service) h =
      at_chain 13 (omega arith) (then_by 13 (broken_loop c) (broken_long c <|> broken_twice c) (loop_by 13 (omega arith) c) (λ straight.
      then_by 13 (broken_long c) (broken_twice c) (long_by 13 (omega arith) c) (λ short.
      hit 13 (broken_twice c) (twice_by 13 (omega arith) c)
      (λ e. against_twice t c chain service ((once_iff c straight).0 e) h))))
  in_order (SubnetOverlap first second) h =
      past_chain 14 (omega arith) (hit 14 (broken_overlap c) (overlaps_by 14 (omega arith) c)
      (λ e. against_overlaps t c first second ((apart_around_iff c).0 e) h))
