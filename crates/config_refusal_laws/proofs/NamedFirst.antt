-- What a refusal names is the first that breaks its rule.
use Rattle.std.proofs.Common.{◌≡◌, ◌≢◌, ◌↔◌, inl, inr, ◌||◌, ◌&&◌, ◌==◌, ◌<◌, ◌++◌, ℕ, Bool, true, false, IsTrue, List, Option, Some, None, option_map, IfSome, find, length, get_or, refl, sym, ap, ◌∙◌, subst}
use Rattle.std.specs.List.{All, Any}
use Rattle.std.proofs.lemmas.Bool.{and_parts, and_from, ltb-true, lt-ltb}
use Rattle.ov_types.specs.Prefix.{Block, contains}
use Rattle.ov_types.specs.First.{same_name, ◌<|>◌, first_of, first_meeting}
use Rattle.config_types.specs.declared.config.Chain.{Chain}
use Rattle.config_types.specs.declared.config.Config.{Config}
use Rattle.config_types.specs.declared.config.Network.{Network}
use Rattle.config_types.specs.declared.config.Port.{Port}
use Rattle.config_types.specs.declared.config.Service.{Service}
use Rattle.config_types.specs.declared.topology.Node.{Node}
use Rattle.config_types.specs.declared.topology.Topology.{Topology}
use Rattle.chain_expand.specs.Expansion.{loops, expansion, same_number}
use Rattle.chain_expand.specs.Leading.{Leads}
use Rattle.chain_expand.proofs.LeadsLaws.{Leads-from_leads, leads_from_Leads}
use Rattle.config_check.specs.declared.refusal.IdKind.{IdKind}
use Rattle.config_check.specs.declared.refusal.IdKind.TheVariants as Id
use Rattle.config_check.specs.declared.refusal.Refusal.{Refusal}
use Rattle.config_check.specs.declared.refusal.Refusal.TheVariants.{DuplicateName, DuplicateId, SubnetReserved, SubnetNested, AddressOutside, AddressTaken, ChainNeedsNetworks, ChainSameNetwork, ChainLoop, ChainTooLong, ServiceTwice, SubnetOverlap}
use Rattle.policy_rules.specs.declared.numbered.NumberedRule.{NumberedRule}
use Rattle.policy_rules.specs.Related.{all_rules, are_related}
use Rattle.config_check.specs.Rules.{broken_limit, controller_names, node_names, network_names, port_names, policy_names, service_names, chain_names, repeated_name, repeated_controller, broken_name, repeated_id, broken_id, broken_reference, overlap, circuit_addresses, reserved_in, broken_reserved, nested_in, broken_nested, network_named, is_outside, broken_outside, share_address, broken_taken, broken_place, is_chain_rule, is_any, lacks_network, broken_needs, same_end, turns_back, broken_same, broken_use, broken_loop, is_too_long, broken_long, twice_in, broken_twice, broken_chain, share_addresses, overlapping, overlapping_around, broken_overlap, first_broken}
use Rattle.config_check.specs.Sentences.{Overlap, IsAround, AreApart}
use Rattle.config_check.proofs.EachRule.{reserved_in_iff, nested_in_iff}
use Rattle.config_check.proofs.Iffs.{mapped_none, first_of_none, first_meeting_none}
use Rattle.config_check.proofs.Meanings.{distinct_names, distinct_ids, networks_apart_iff, around_test, around_iff, overlap_iff, inside_iff, and_iff, number_iff, ends_iff, names_two_iff}
use Rattle.config_check.proofs.Straight.{no_loop, too_long_is}
use Rattle.config_refusal_laws.specs.Breaks.{LiesOutside, namespaces, numbers_of}
use Rattle.config_refusal_laws.specs.Named.{IsFirst, IsFirstPair, IsFirstByFirst, HasPair, IsSame, id_kinds, OverlapsAround, IsReserved, SharesAddress, LacksNetwork, TurnsBack, SharesNumber, NamesFirst}
use Rattle.ov_types.proofs.FirstLemmas.{any_of, answered, of_either, of_mapped, contains_at, same_name_iff, or_apart}
use Rattle.config_refusal_laws.proofs.FirstOnes.{some_case, then_some, found_first, answers_first, first_pair_is, by_first, or_none}
use Rattle.config_refusal_laws.proofs.FirstLimits.{first_above}
use Rattle.config_refusal_laws.proofs.FirstReferences.{first_dangling}
use Rattle.config_refusal_laws.proofs.Invalid.{no_any, pair_of, held, against_any}
use Rattle.config_refusal_laws.proofs.Overlaps.{some_overlap}
use Rattle.config_refusal_laws.proofs.Places.{outside_of}
use Rattle.config_refusal_laws.proofs.Chains.{chain_of, some_any, one_network}

-- a test, by what it means where it passes and where it fails
test_iff : {P : Type 0} (b : Bool) → (b ≡ true → P) → (b ≡ false → ¬ P) → IsTrue b ↔ P
test_iff true yes_is no_is = (λ h. yes_is refl, λ p. refl)
test_iff false yes_is no_is = (λ h. cc, λ p. absurd (no_is refl p))

some_given : {A B : Type 0} (f : A → B) (o : Option A) (r : B) → option_map f o ≡ Some r → (x : A) × (o ≡ Some x) × (f x ≡ r)
some_given f None r h = cc
some_given f (Some x) r h = (x, refl, cc)

-- two that stand in a list, as its pair
pair_there : {A : Type 0} (M : A → A → Type 0) (xs : List A) (x y : A) → IsFirstPair M xs x y → HasPair M xs
pair_there M xs x y f =
    (x, y, record { earlier = f.earlier; later = f.later; in_order = f.in_order; first_there = f.first_there; second_there = f.second_there }, f.meet)

-- what is found is one of the list
any_there : {A : Type 0} (F : A → Type 0) (xs : List A) (x : A) → IsFirst F xs x → Any F xs
any_there F xs x f = any_of F xs x (contains_at xs f.place x f.there) f.at_fault

-- subnets

never_reserved : (n : Network) → reserved_in n ≡ None → ¬ IsReserved n
never_reserved n none =
    no_any (λ (p : Block). ¬ Overlap circuit_addresses p) (Overlap circuit_addresses) n.subnets ((reserved_in_iff n).0 none) (λ p apart. apart)

reserved_first : (t : Topology) (c : Config) → IfSome (broken_reserved c) (NamesFirst t c)
unfolding broken_reserved
reserved_first t c =
    some_case (NamesFirst t c) (first_of reserved_in c.networks)
    (λ r e.
    let a = answers_first reserved_in IsReserved never_reserved c.networks r e in
    let says : Block → Refusal = λ p. SubnetReserved a.item.name p in
    let g = some_given says (find (overlap circuit_addresses) a.item.subnets) r a.gives in
    let f = found_first (overlap circuit_addresses) (Overlap circuit_addresses) (overlap_iff circuit_addresses) a.item.subnets g.0 g.1 in
    subst (NamesFirst t c) g.2 (a.item, refl, a.first (any_there (Overlap circuit_addresses) a.item.subnets g.0 f), f))

never_nested : (n : Network) → nested_in n ≡ None → ¬ HasPair Overlap n.subnets
never_nested n none h = pair_of (λ (p : Block) (q : Block). ¬ Overlap p q) n.subnets h.0 h.1 ((nested_in_iff n).0 none) h.2 h.3

nested_first : (t : Topology) (c : Config) → IfSome (broken_nested c) (NamesFirst t c)
unfolding broken_nested
nested_first t c =
    some_case (NamesFirst t c) (first_of nested_in c.networks)
    (λ r e.
    let a = answers_first nested_in (λ m. HasPair Overlap m.subnets) never_nested c.networks r e in
    let says : Block × Block → Refusal = λ m. SubnetNested a.item.name m.0 m.1 in
    let g = some_given says (first_meeting overlap a.item.subnets) r a.gives in
    let f = first_pair_is overlap Overlap overlap_iff a.item.subnets g.0 g.1 in
    subst (NamesFirst t c) g.2 (a.item, refl, a.first (pair_there Overlap a.item.subnets g.0.0 g.0.1 f), f))

-- ports

outside_iff : (c : Config) (p : Port) → IsTrue (is_outside c p) ↔ LiesOutside c p
outside_iff c p =
    test_iff (is_outside c p) (outside_of (network_named c p.network) p.address.0)
    (λ e. held (network_named c p.network) (λ n. Any (λ s. contains s p.address.0 ≡ true) n.subnets) ((inside_iff c p).0 e))

outside_first : (t : Topology) (c : Config) → IfSome (broken_outside c) (NamesFirst t c)
unfolding broken_outside
outside_first t c =
    of_mapped (NamesFirst t c) (λ (p : Port). AddressOutside p.name) (find (is_outside c) c.ports)
    (λ p e. (p, refl, found_first (is_outside c) (LiesOutside c) (outside_iff c) c.ports p e))

shares_address : (p q : Port) → IsTrue (share_address p q) ↔ SharesAddress p q
shares_address p q =
    and_iff (same_name p.network q.network) (p.address.0 == q.address.0) (same_name_iff p.network q.network) (number_iff p.address.0 q.address.0)

taken_first : (t : Topology) (c : Config) → IfSome (broken_taken c) (NamesFirst t c)
unfolding broken_taken
taken_first t c =
    of_mapped (NamesFirst t c) (λ (m : Port × Port). AddressTaken m.0.name m.1.name) (first_meeting share_address c.ports)
    (λ m e. (m.0, m.1, refl, refl, first_pair_is share_address SharesAddress shares_address c.ports m e))

place_first : (t : Topology) (c : Config) → IfSome (broken_place c) (NamesFirst t c)
place_first t c =
    let N : Refusal → Type 0 = NamesFirst t c in
    of_either N (broken_reserved c) (broken_nested c <|> (broken_outside c <|> broken_taken c)) (reserved_first t c)
    (of_either N (broken_nested c) (broken_outside c <|> broken_taken c) (nested_first t c)
    (of_either N (broken_outside c) (broken_taken c) (outside_first t c) (taken_first t c)))

-- chain rules

lacks_iff : (r : NumberedRule) → IsTrue (lacks_network r.rule) ↔ LacksNetwork r
lacks_iff r =
    let names : Bool = is_any r.rule.source || is_any r.rule.destination in
    test_iff (lacks_network r.rule)
    (λ e. let parts = and_parts (is_chain_rule r.rule.action) names e in (chain_of r.rule.action parts.0, some_any r.rule.source r.rule.destination parts.1))
    (λ e h. against_any r.rule ((ends_iff r.rule.action r.rule.source r.rule.destination).0 e) h.0 h.1)

needs_first : (t : Topology) (c : Config) → IfSome (broken_needs (all_rules c)) (NamesFirst t c)
unfolding broken_needs
needs_first t c =
    of_mapped (NamesFirst t c) (λ (r : NumberedRule). ChainNeedsNetworks r.number) (find (λ r. lacks_network r.rule) (all_rules c))
    (λ r e. (r, refl, found_first (λ (x : NumberedRule). lacks_network x.rule) LacksNetwork lacks_iff (all_rules c) r e))

turns_iff : (r : NumberedRule) → IsTrue (turns_back r.rule) ↔ TurnsBack r
turns_iff r =
    test_iff (turns_back r.rule)
    (λ e. let parts = and_parts (is_chain_rule r.rule.action) (same_end r.rule.source r.rule.destination) e in (chain_of r.rule.action parts.0, one_network r.rule.source r.rule.destination parts.1))
    (λ e h. (names_two_iff r.rule.action r.rule.source r.rule.destination).0 e h.0.0 h.1.0 h.0.1.0 h.0.1.1 h.1.1 h.1.2)

same_first : (t : Topology) (c : Config) → IfSome (broken_same (all_rules c)) (NamesFirst t c)
unfolding broken_same
same_first t c =
    of_mapped (NamesFirst t c) (λ (r : NumberedRule). ChainSameNetwork r.number) (find (λ r. turns_back r.rule) (all_rules c))
    (λ r e. (r, refl, found_first (λ (x : NumberedRule). turns_back x.rule) TurnsBack turns_iff (all_rules c) r e))

use_first : (t : Topology) (c : Config) → IfSome (broken_use (all_rules c)) (NamesFirst t c)
use_first t c = of_either (NamesFirst t c) (broken_needs (all_rules c)) (broken_same (all_rules c)) (needs_first t c) (same_first t c)

-- chains

loop_first : (t : Topology) (c : Config) → IfSome (broken_loop c) (NamesFirst t c)
unfolding broken_loop
loop_first t c =
    of_mapped (NamesFirst t c) (λ (d : Chain). ChainLoop d.name) (find (λ d. loops c d.name) c.chains)
    (λ d e. (
      d,
      refl,
      found_first (λ (x : Chain). loops c x.name) (λ x. Leads c x.name x.name)
          (λ x. (Leads-from_leads c x.name x.name, leads_from_Leads c x.name x.name)) c.chains d e,
    ))

long_iff : (c : Config) → broken_loop c ≡ None → (d : Chain) → IsTrue (is_too_long c d) ↔ (15 < length (expansion c d.name))
long_iff c straight d = (
  λ h. ltb-true 15 (length (expansion c d.name)) (sym (too_long_is c d straight) ∙ h),
  λ more. too_long_is c d straight ∙ lt-ltb 15 (length (expansion c d.name)) more,
)

long_first : (t : Topology) (c : Config) → broken_loop c ≡ None → IfSome (broken_long c) (NamesFirst t c)
unfolding broken_long
long_first t c straight =
    of_mapped (NamesFirst t c) (λ (d : Chain). ChainTooLong d.name) (find (is_too_long c) c.chains)
    (λ d e. (d, refl, found_first (is_too_long c) (λ x. 15 < length (expansion c x.name)) (long_iff c straight) c.chains d e))

-- where no chain loops, a chain's answer is that of its expansion
straight_twice : (c : Config) (d : Chain) → broken_loop c ≡ None → twice_in c d ≡ option_map (λ m. ServiceTwice d.name m.1.name) (first_meeting same_number (expansion c d.name))
straight_twice c d straight = rw (no_loop c d.name straight) refl

shares_number : (s u : Service) → IsTrue (same_number s u) ↔ SharesNumber s u
shares_number s u = number_iff s.id.0 u.id.0

never_twice : (c : Config) → broken_loop c ≡ None → (d : Chain) → twice_in c d ≡ None → ¬ HasPair SharesNumber (expansion c d.name)
never_twice c straight d none h =
    let says : Service × Service → Refusal = λ m. ServiceTwice d.name m.1.name in
    let pair : Option (Service × Service) = first_meeting same_number (expansion c d.name) in
    let alone = (first_meeting_none same_number (expansion c d.name)).0 ((mapped_none says pair).0 (sym (straight_twice c d straight) ∙ none)) in
    let differ : same_number h.0 h.1 ≡ false = pair_of (λ (s : Service) (u : Service). same_number s u ≡ false) (expansion c d.name) h.0 h.1 alone h.2 in
    let never : true ≡ false = sym ((shares_number h.0 h.1).1 h.3) ∙ differ in
    cc

twice_first : (t : Topology) (c : Config) → broken_loop c ≡ None → IfSome (broken_twice c) (NamesFirst t c)
unfolding broken_twice
twice_first t c straight =
    some_case (NamesFirst t c) (first_of (twice_in c) c.chains)
    (λ r e.
    let a = answers_first (twice_in c) (λ x. HasPair SharesNumber (expansion c x.name)) (never_twice c straight) c.chains r e in
    let services : List Service = expansion c a.item.name in
    let says : Service × Service → Refusal = λ m. ServiceTwice a.item.name m.1.name in
    let g = some_given says (first_meeting same_number services) r (sym (straight_twice c a.item straight) ∙ a.gives) in
    let f = first_pair_is same_number SharesNumber shares_number services g.0 g.1 in
    subst (NamesFirst t c) g.2 (a.item, g.0.0, g.0.1, refl, refl, a.first (pair_there SharesNumber services g.0.0 g.0.1 f), f))

chain_first : (t : Topology) (c : Config) → IfSome (broken_chain c) (NamesFirst t c)
chain_first t c =
    then_some (NamesFirst t c) (broken_loop c) (broken_long c <|> broken_twice c) (loop_first t c)
    (λ straight. of_either (NamesFirst t c) (broken_long c) (broken_twice c) (long_first t c straight) (twice_first t c straight))

-- limits and references

limit_first : (t : Topology) (c : Config) → IfSome (broken_limit t c) (NamesFirst t c)
limit_first t c =
    some_case (NamesFirst t c) (broken_limit t c)
    (λ r e. let a = first_above t c r e in subst (NamesFirst t c) a.is_said a.first)

reference_first : (t : Topology) (c : Config) → IfSome (broken_reference t c) (NamesFirst t c)
reference_first t c =
    some_case (NamesFirst t c) (broken_reference t c)
    (λ r e. let a = first_dangling t c r e in subst (NamesFirst t c) a.is_said (a.names, a.first))

-- names and numbers

kind_answer : (t : Topology) (c : Config) → IdKind → Option Refusal
kind_answer t c kind = repeated_id kind (numbers_of t c kind)

ids_by_kind : (t : Topology) (c : Config) → broken_id t c ≡ first_of (kind_answer t c) id_kinds
unfolding broken_id kind_answer
ids_by_kind t c =
    let r1 : Option Refusal = repeated_id Id.Address (numbers_of t c Id.Address) in
    let r2 : Option Refusal = repeated_id Id.Network (numbers_of t c Id.Network) in
    let r3 : Option Refusal = repeated_id Id.Port (numbers_of t c Id.Port) in
    let r4 : Option Refusal = repeated_id Id.Sequence (numbers_of t c Id.Sequence) in
    let r5 : Option Refusal = repeated_id Id.Service (numbers_of t c Id.Service) in
    let r6 : Option Refusal = repeated_id Id.Use (numbers_of t c Id.Use) in
    ap (λ (o : Option Refusal). r1 <|> (r2 <|> (r3 <|> (r4 <|> (r5 <|> o))))) (sym (or_none r6))

number_never : (what : IdKind) (ids : List ℕ) → repeated_id what ids ≡ None → ¬ HasPair IsSame ids
number_never what ids none h = pair_of (λ (a : ℕ) (b : ℕ). a ≢ b) ids h.0 h.1 ((distinct_ids what ids).0 none) h.2 h.3

kind_never : (t : Topology) (c : Config) (kind : IdKind) → kind_answer t c kind ≡ None → ¬ HasPair IsSame (numbers_of t c kind)
unfolding kind_answer
kind_never t c kind none = number_never kind (numbers_of t c kind) none

number_named : (t : Topology) (c : Config) (kind : IdKind) (r : Refusal) → kind_answer t c kind ≡ Some r
    → (id : ℕ) × (DuplicateId kind id ≡ r) × IsFirstPair IsSame (numbers_of t c kind) id id
unfolding kind_answer
number_named t c kind r e =
    let ids : List ℕ = numbers_of t c kind in
    let says : ℕ × ℕ → Refusal = λ m. DuplicateId kind m.1 in
    let g = some_given says (first_meeting (λ x y. x == y) ids) r e in
    let f = first_pair_is (λ (x y : ℕ). x == y) (λ (x y : ℕ). x ≡ y) number_iff ids g.0 g.1 in
    (g.0.1, g.2, subst (λ (x : ℕ). IsFirstPair (λ (x y : ℕ). x ≡ y) ids x g.0.1) f.meet f)

id_first : (t : Topology) (c : Config) → IfSome (broken_id t c) (NamesFirst t c)
id_first t c =
    some_case (NamesFirst t c) (broken_id t c)
    (λ r e.
    let a = answers_first (kind_answer t c) (λ kind. HasPair IsSame (numbers_of t c kind)) (kind_never t c) id_kinds r (sym (ids_by_kind t c) ∙ e) in
    let w = number_named t c a.item r a.gives in
    subst (NamesFirst t c) w.1 (a.first (pair_there (λ (x y : ℕ). x ≡ y) (numbers_of t c a.item) w.0 w.0 w.2), w.2))

name_parts : (t : Topology) (c : Config) → (first_of repeated_name (namespaces t c) <|> first_of repeated_controller t.nodes) ≡ broken_name t c
unfolding broken_name
name_parts t c =
    let r1 : Option Refusal = repeated_name (controller_names t ++ node_names t) in
    let r2 : Option Refusal = repeated_name (network_names c) in
    let r3 : Option Refusal = repeated_name (port_names c) in
    let r4 : Option Refusal = repeated_name (policy_names c) in
    let r5 : Option Refusal = repeated_name (service_names c ++ chain_names c) in
    let r6 : Option Refusal = first_of repeated_controller t.nodes in
    let s5 : Option Refusal = r5 <|> None in
    let s4 : Option Refusal = r4 <|> s5 in
    let s3 : Option Refusal = r3 <|> s4 in
    let s2 : Option Refusal = r2 <|> s3 in
    let e5 : (s5 <|> r6) ≡ (r5 <|> r6) = or_apart r5 None r6 in
    let e4 : (s4 <|> r6) ≡ (r4 <|> (r5 <|> r6)) = or_apart r4 s5 r6 ∙ ap (λ (o : Option Refusal). r4 <|> o) e5 in
    let e3 : (s3 <|> r6) ≡ (r3 <|> (r4 <|> (r5 <|> r6))) = or_apart r3 s4 r6 ∙ ap (λ (o : Option Refusal). r3 <|> o) e4 in
    let e2 : (s2 <|> r6) ≡ (r2 <|> (r3 <|> (r4 <|> (r5 <|> r6)))) = or_apart r2 s3 r6 ∙ ap (λ (o : Option Refusal). r2 <|> o) e3 in
    or_apart r1 s2 r6 ∙ ap (λ (o : Option Refusal). r1 <|> o) e2

name_never : (names : List (List ℕ)) → repeated_name names ≡ None → ¬ HasPair IsSame names
name_never names none h = pair_of (λ (a : List ℕ) (b : List ℕ). a ≢ b) names h.0 h.1 ((distinct_names names).0 none) h.2 h.3

name_twice : (names : List (List ℕ)) (r : Refusal) → repeated_name names ≡ Some r
    → (name : List ℕ) × (DuplicateName name ≡ r) × IsFirstPair IsSame names name name
name_twice names r e =
    let says : List ℕ × List ℕ → Refusal = λ m. DuplicateName m.1 in
    let g = some_given says (first_meeting same_name names) r e in
    let f = first_pair_is same_name (λ (x y : List ℕ). x ≡ y) same_name_iff names g.0 g.1 in
    (g.0.1, g.2, subst (λ (x : List ℕ). IsFirstPair (λ (x y : List ℕ). x ≡ y) names x g.0.1) f.meet f)

name_first : (t : Topology) (c : Config) → IfSome (broken_name t c) (NamesFirst t c)
name_first t c =
    let N : Refusal → Type 0 = NamesFirst t c in
    let spaces : List (List (List ℕ)) = namespaces t c in
    let listed : Option Refusal = first_of repeated_controller t.nodes in
    some_case N (broken_name t c)
    (λ r e.
    elim (first_of repeated_name spaces) as (λ o. (first_of repeated_name spaces ≡ o) → (o <|> listed) ≡ Some r → N r) [
      | Some x ↦ λ e1 e2.
          let a = answers_first repeated_name (λ names. HasPair IsSame names) name_never spaces r (e1 ∙ e2) in
          let w = name_twice a.item r a.gives in
          subst N w.1 (inl (a.item, a.first (pair_there (λ (x y : List ℕ). x ≡ y) a.item w.0 w.0 w.2), w.2))
      | None ↦ λ e1 e2.
          let none = (first_of_none repeated_name spaces).0 e1 in
          let a = answers_first repeated_controller (λ (m : Node). HasPair IsSame m.controllers) (λ m. name_never m.controllers) t.nodes r e2 in
          let w = name_twice a.item.controllers r a.gives in
          subst N w.1 (inr (
            λ k d lt. name_never (get_or spaces k d) (none k d lt),
            a.item,
            a.first (pair_there (λ (x y : List ℕ). x ≡ y) a.item.controllers w.0 w.0 w.2),
            w.2,
          ))
    ] refl (name_parts t c ∙ e))

-- related networks

apart_never : (a b : Network) → AreApart a b → ¬ Any (λ p. Any (Overlap p) b.subnets) a.subnets
apart_never a b apart h =
    no_any (λ (p : Block). All (λ q. ¬ Overlap p q) b.subnets) (λ p. Any (Overlap p) b.subnets) a.subnets apart
    (λ p none. no_any (λ (q : Block). ¬ Overlap p q) (Overlap p) b.subnets none (λ q differ. differ)) h

shares_iff : (a b : Network) → IsTrue (share_addresses a b) ↔ Any (λ p. Any (Overlap p) b.subnets) a.subnets
shares_iff a b = test_iff (share_addresses a b) (some_overlap a b) (λ e. apart_never a b ((networks_apart_iff a b).0 e))

around_iff_test : (c : Config) (n x y : Network)
    → IsTrue ((same_name x.name n.name || are_related c n x) && ((same_name y.name n.name || are_related c n y) && share_addresses x y)) ↔ OverlapsAround c n x y
around_iff_test c n x y =
    let one : Bool = same_name x.name n.name || are_related c n x in
    let two : Bool = same_name y.name n.name || are_related c n y in (
      λ h.
          let p = and_parts one (two && share_addresses x y) h in
          let q = and_parts two (share_addresses x y) p.1 in
          ((around_test c n x).0 p.0, (around_test c n y).0 q.0, (shares_iff x y).0 q.1),
      λ h.
          and_from one (two && share_addresses x y) ((around_test c n x).1 h.0)
          (and_from two (share_addresses x y) ((around_test c n y).1 h.1) ((shares_iff x y).1 h.2)),
    )

never_around : (c : Config) (n : Network) → overlapping_around c n ≡ None → ¬ HasPair (OverlapsAround c n) c.networks
never_around c n none h =
    let apart = pair_of (λ (a : Network) (b : Network). IsAround c n a → IsAround c n b → AreApart a b) c.networks h.0 h.1 ((around_iff c n).0 none) h.2 in
    apart_never h.0 h.1 (apart h.3.0 h.3.1) h.3.2

by_first_pair : {A : Type 0} (M : A → A → Type 0) (xs : List A) (x y : A) → IsFirstByFirst M xs x y → HasPair M xs
by_first_pair M xs x y f =
    (x, y, record { earlier = f.earlier; later = f.later; in_order = f.in_order; first_there = f.first_there; second_there = f.second_there }, f.meet)

overlap_first : (t : Topology) (c : Config) → IfSome (broken_overlap c) (NamesFirst t c)
unfolding broken_overlap
overlap_first t c =
    some_case (NamesFirst t c) (first_of (overlapping_around c) c.networks)
    (λ r e.
    let a = answers_first (overlapping_around c) (λ m. HasPair (OverlapsAround c m) c.networks) (never_around c) c.networks r e in
    let n : Network = a.item in
    let w = by_first (λ (x y : Network). SubnetOverlap x.name y.name) share_addresses (λ m. same_name m.name n.name || are_related c n m) (OverlapsAround c n)
    (around_iff_test c n) overlapping refl (λ z zs. refl) c.networks r a.gives in
    subst (NamesFirst t c) w.is_said (
      n,
      w.first,
      w.second,
      refl,
      refl,
      a.first (by_first_pair (OverlapsAround c n) c.networks w.first w.second w.is),
      w.is,
    ))

-- the whole

first_named : (t : Topology) (c : Config) → IfSome (first_broken t c) (NamesFirst t c)
unfolding first_broken
first_named t c =
    let N : Refusal → Type 0 = NamesFirst t c in
    let r7 : Option Refusal = broken_chain c <|> broken_overlap c in
    let r6 : Option Refusal = broken_use (all_rules c) <|> r7 in
    let r5 : Option Refusal = broken_place c <|> r6 in
    let r4 : Option Refusal = broken_reference t c <|> r5 in
    let r3 : Option Refusal = broken_id t c <|> r4 in
    let r2 : Option Refusal = broken_name t c <|> r3 in
    of_either N (broken_limit t c) r2 (limit_first t c)
    (of_either N (broken_name t c) r3 (name_first t c)
    (of_either N (broken_id t c) r4 (id_first t c)
    (of_either N (broken_reference t c) r5 (reference_first t c)
    (of_either N (broken_place c) r6 (place_first t c)
    (of_either N (broken_use (all_rules c)) r7 (use_first t c)
    (of_either N (broken_chain c) (broken_overlap c) (chain_first t c) (overlap_first t c)))))))

pub named_first : (t : Topology) (c : Config) (r : Refusal) → first_broken t c ≡ Some r → NamesFirst t c r
named_first t c r e = answered (NamesFirst t c) (first_broken t c) (first_named t c) r e
