-- A rule is found to decide on a packet exactly where it does.
use Rattle.std.proofs.Common.{◌≡◌, ◌≢◌, ◌↔◌, ◌≤◌, ◌+◌, ◌==◌, ◌&&◌, ◌||◌, ℕ, leb, Bool, true, false, cond, not, List, [], ◌∷◌, Option, Some, None, IsTrue}
use Rattle.std.proofs.Common.{refl, sym, ap, ◌∙◌, arith}
use Rattle.std.specs.Prelude.{count_by, option_map}
use Rattle.std.specs.List.{Contains, list_any}
use Rattle.std.specs.BTreeMap.{is_at}
use Rattle.std.specs.Cmp.{unsigned_tied}
use Rattle.std.specs.Ordering.{is_eq, nat_cmp, ordering_then}
use Rattle.std.specs.declared.cmp.Ordering.{Ordering}
use Rattle.std.specs.declared.cmp.Ordering.TheVariants.{Less, Equal, Greater}
use Rattle.ov_types.specs.contracts.packet.RuleNoOrd.TheImpl as numbers
use Rattle.std.proofs.lemmas.Bool.{and_from, and_parts, le-leb, leb-true}
use Rattle.std.proofs.lemmas.List.Elements.{All-contains}
use Rattle.std.proofs.lemmas.List.Folds.{Any-from_list_any, list_any-from_Any}
use Rattle.std.proofs.lemmas.List.Sums.{sum_by-cons}
use Rattle.ov_types.specs.First.{same_name}
use Rattle.ov_types.specs.declared.packet.Range16.{Range16}
use Rattle.ov_types.specs.declared.packet.RuleNo.{RuleNo}
use Rattle.ov_types.specs.declared.packet.Tuple.{Tuple}
use Rattle.ov_types.proofs.FirstLemmas.{any_of, contains_here, contains_later, same_name_iff}
use Rattle.config_types.specs.declared.config.Config.{Config}
use Rattle.config_types.specs.declared.config.Network.{Network}
use Rattle.policy_rules.specs.Matching.{deciding, decision, decision_by}
use Rattle.policy_rules.specs.declared.matching.Decision.{Decision}
use Rattle.policy_rules.specs.declared.matching.Match.{Match}
use Rattle.policy_rules.proofs.Taking.{deciding_iff}
use Rattle.policy_regions.specs.Joined.{regions_between}
use Rattle.policy_regions.specs.Parts.{IsTuple}
use Rattle.policy_regions.specs.Regions.{holds}
use Rattle.policy_regions.specs.declared.region.DecidedRegion.{DecidedRegion}
use Rattle.policy_regions.specs.declared.region.Region.{Region}
use Rattle.policy_regions.proofs.Boxes.{between_decides, between_lies}
use Rattle.policy_regions.proofs.Held.{holds_iff}
use Rattle.inspect_rules.specs.Deciders.{DecidesSome, decides_between, decides_from, decides_some, has_one_to, holds_some, is_by, is_decided_by, same_rule}

-- numbers

number_self : (n : ℕ) → (n == n) ≡ true
number_self n = grind arith

number_is : (m n : ℕ) → (m == n) ≡ true → m ≡ n
number_is m n h = grind arith

pub rule_self : (n : RuleNo) → same_rule n n ≡ true
rule_self n = and_from (n.sequence == n.sequence) (n.position == n.position) (number_self n.sequence) (number_self n.position)

pub rule_is : (m n : RuleNo) → same_rule m n ≡ true → m ≡ n
rule_is m n h =
    let p = and_parts (m.sequence == n.sequence) (m.position == n.position) h in
    let sequence = number_is m.sequence n.sequence p.0 in
    let position = number_is m.position n.position p.1 in
    λ i. record { sequence = sequence i; position = position i }

-- what a region holds

abbrev pub corner : Region → Tuple
corner r = record { proto = r.protocols.lo; sport = r.source_ports.lo; dport = r.destination_ports.lo }

in_parts : (r : Range16) (last : ℕ) → has_one_to r last ≡ true → (r.lo ≤ r.hi) × (r.lo ≤ last)
in_parts r last h =
    let p = and_parts (leb r.lo r.hi) (leb r.lo last) h in
    (leb-true r.lo r.hi p.0, leb-true r.lo last p.1)

pub corner_is_held : (r : Region) → holds_some r ≡ true → IsTuple (corner r) × IsTrue (holds r (corner r))
corner_is_held r h =
    let p = and_parts (has_one_to r.protocols 255) (has_one_to r.source_ports 65535 && has_one_to r.destination_ports 65535) h in
    let q = and_parts (has_one_to r.source_ports 65535) (has_one_to r.destination_ports 65535) p.1 in
    let protocol = in_parts r.protocols 255 p.0 in
    let source = in_parts r.source_ports 65535 q.0 in
    let destination = in_parts r.destination_ports 65535 q.1 in (
      record { proto = protocol.1; sport = source.1; dport = destination.1 },
      (holds_iff r (corner r)).1 (record {
        protocol = record { from = omega arith; to = protocol.0 };
        source_port = record { from = omega arith; to = source.0 };
        destination_port = record { from = omega arith; to = destination.0 };
      }),
    )

has_one : (r : Range16) (n last : ℕ) → r.lo ≤ n → n ≤ r.hi → n ≤ last → has_one_to r last ≡ true
has_one r n last from to small =
    and_from (leb r.lo r.hi) (leb r.lo last) (le-leb r.lo r.hi (omega (arith, from, to))) (le-leb r.lo last (omega (arith, from, small)))

pub some_are_held : (r : Region) (t : Tuple) → IsTuple t → IsTrue (holds r t) → holds_some r ≡ true
some_are_held r t h at =
    let k = (holds_iff r t).0 at in
    and_from (has_one_to r.protocols 255) (has_one_to r.source_ports 65535 && has_one_to r.destination_ports 65535)
    (has_one r.protocols t.proto 255 k.protocol.from k.protocol.to h.proto)
    (and_from (has_one_to r.source_ports 65535) (has_one_to r.destination_ports 65535)
    (has_one r.source_ports t.sport 65535 k.source_port.from k.source_port.to h.sport)
    (has_one r.destination_ports t.dport 65535 k.destination_port.from k.destination_port.to h.dport))

-- what decides

some_held : {A : Type 0} (p : A → Bool) (xs : List A) → count_by p xs ≡ 1 → (x : A) × Contains xs x × (p x ≡ true)
some_held p [] h = absurd (omega arith)
some_held {A} p (x ∷ xs) h =
    elim (p x) as (λ b. p x ≡ b → (cond b 1 0) + count_by p xs ≡ 1 → (y : A) × Contains (x ∷ xs) y × (p y ≡ true)) [
      | true ↦ λ e one. (x, contains_here x xs, e)
      | false ↦ λ e one. let fewer : count_by p xs ≡ 1 = omega (arith, one) in let rest = some_held p xs fewer in (rest.0, contains_later rest.0 x xs rest.1, rest.2)
    ] refl (sym (sum_by-cons (λ y. cond (p y) 1 0) x xs) ∙ h)

by_whom : (number : RuleNo) (d : Option Decision) → is_by number d ≡ true → (e : Decision) × (d ≡ Some e) × (e.rule ≡ number)
by_whom number None h = absurd cc
by_whom number (Some d) h = (d, refl, rule_is d.rule number h)

found_by : (c : Config) (a b : Network) (t : Tuple) (number : RuleNo) (found : Option Match) (e : Decision) → option_map decision_by found ≡ Some e
    → e.rule ≡ number → (m : Match) × (found ≡ Some m) × (m.rule.number ≡ number)
found_by c a b t number None e h is = absurd cc
found_by c a b t number (Some m) e h is = let same : decision_by m ≡ e = cc in (m, refl, ap (λ (d : Decision). d.rule) same ∙ is)

differ_is : (a b : List ℕ) (q : Bool) → same_name a b ≡ q → not q ≡ true → a ≢ b
differ_is a b true e h = λ same. cc
differ_is a b false e h = λ same. let two : true ≡ false = sym ((same_name_iff a b).1 same) ∙ e in cc

is_differ : (a b : List ℕ) (q : Bool) → same_name a b ≡ q → a ≢ b → not q ≡ true
is_differ a b true e h = absurd (h ((same_name_iff a b).0 e))
is_differ a b false e h = refl

decided : (c : Config) (number : RuleNo) (a b : Network) (r : DecidedRegion) → Contains c.networks a → Contains c.networks b → a.name ≢ b.name
    → Contains (regions_between c a b) r → is_decided_by number r ≡ true → DecidesSome c number
decided c number a b r a_stands b_stands differ stands h =
    let p = and_parts (holds_some r.region) (is_by number r.decision) h in
    let t = corner r.region in
    let held = corner_is_held r.region p.0 in
    let who = by_whom number r.decision p.1 in
    let says : r.decision ≡ decision c a b t =
    All-contains (λ (s : DecidedRegion). IsTrue (holds s.region t) → s.decision ≡ decision c a b t) (regions_between c a b) r
    (between_decides c a b t held.0) stands held.1 in
    let found = found_by c a b t number (deciding c a b t) who.0 (sym says ∙ who.1) who.2 in
    record {
      from = a;
      to = b;
      from_stands = a_stands;
      to_stands = b_stands;
      differ = differ;
      tuple = t;
      is_tuple = held.0;
      decider = found.0;
      decides = (deciding_iff c a b t found.0).0 found.1;
      is = found.2;
    }

some_decides : (c : Config) (number : RuleNo) → decides_some c number ≡ true → DecidesSome c number
some_decides c number h =
    let first = Any-from_list_any (decides_from c number) c.networks h in
    let second = Any-from_list_any (decides_between c number first.1) c.networks first.4 in
    let p = and_parts (not (same_name first.1.name second.1.name)) (list_any (is_decided_by number) (regions_between c first.1 second.1)) second.4 in
    let third = Any-from_list_any (is_decided_by number) (regions_between c first.1 second.1) p.1 in
    decided c number first.1 second.1 third.1 (first.0, first.2, first.3) (second.0, second.2, second.3)
    (differ_is first.1.name second.1.name (same_name first.1.name second.1.name) refl p.0) (third.0, third.2, third.3) third.4

pub any_true : {A : Type 0} (p : A → Bool) (xs : List A) (x : A) → Contains xs x → p x ≡ true → list_any p xs ≡ true
any_true p xs x at h = list_any-from_Any p xs (any_of (λ x. p x ≡ true) xs x at h)

decides_some_of : (c : Config) (number : RuleNo) → DecidesSome c number → decides_some c number ≡ true
decides_some_of c number d =
    let a = d.from in
    let b = d.to in
    let t = d.tuple in
    let by : decision c a b t ≡ Some (decision_by d.decider) = ap (option_map decision_by) ((deciding_iff c a b t d.decider).1 d.decides) in
    let found = some_held (λ (s : DecidedRegion). holds s.region t) (regions_between c a b) (between_lies c a b t d.is_tuple) in
    let r : DecidedRegion = found.0 in
    let says : r.decision ≡ decision c a b t =
    All-contains (λ (s : DecidedRegion). IsTrue (holds s.region t) → s.decision ≡ decision c a b t) (regions_between c a b) r
    (between_decides c a b t d.is_tuple) found.1 found.2 in
    let by_rule : is_by number r.decision ≡ true =
    ap (is_by number) (says ∙ by) ∙ ap (λ (n : RuleNo). same_rule n number) d.is ∙ rule_self number in
    let at : is_decided_by number r ≡ true =
    and_from (holds_some r.region) (is_by number r.decision) (some_are_held r.region t d.is_tuple found.2) by_rule in
    let between : decides_between c number a b ≡ true =
    and_from (not (same_name a.name b.name)) (list_any (is_decided_by number) (regions_between c a b))
    (is_differ a.name b.name (same_name a.name b.name) refl d.differ) (any_true (is_decided_by number) (regions_between c a b) r found.1 at) in
    any_true (decides_from c number) c.networks a d.from_stands (any_true (decides_between c number a) c.networks b d.to_stands between)

pub decides_iff : (c : Config) (number : RuleNo) → (decides_some c number ≡ true) ↔ DecidesSome c number
decides_iff c number = (some_decides c number, decides_some_of c number)

-- the keys of a set

both_equal : (a b : Ordering) → is_eq (ordering_then a b) ≡ (is_eq a && is_eq b)
both_equal Less b = refl
both_equal Equal b = refl
both_equal Greater b = refl

pub rule_at : (m n : RuleNo) → is_at (numbers.ghosts.cmp m) n ≡ same_rule m n
rule_at m n =
    both_equal (nat_cmp m.sequence n.sequence) (nat_cmp m.position n.position)
    ∙ (λ i. unsigned_tied m.sequence n.sequence i && unsigned_tied m.position n.position i)

pub as_or : (b c : Bool) → cond b true c ≡ (b || c)
as_or true c = refl
as_or false c = refl
