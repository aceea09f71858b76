-- What goes by two ways goes so with numbers of a packet too: rules name few protocols, and no port above the last.
use Rattle.std.proofs.Common.{◌≡◌, ◌≢◌, ◌≤◌, ◌<◌, ◌+◌, ◌*◌, inl, inr, ℕ, zero, suc, ◌&&◌, ◌||◌, eqb, leb, length, Bool, true, false, cond, IsTrue, List, [], ◌∷◌, ◌++◌, not, Option, Some, None, filter, flat_map, refl, sym, ap, ◌∙◌, subst, arith, length-append}
use Rattle.std.specs.List.{All, Contains, find, list_all, list_any}
use Rattle.std.specs.Option.{option_map_or}
use Rattle.std.proofs.lemmas.Bool.{and_parts, le-leb, leb-false, leb-true}
use Rattle.std.proofs.lemmas.List.Elements.{All-contains, Contains-append_left, Contains-append_right}
use Rattle.ov_types.specs.Access.{in_range}
use Rattle.ov_types.specs.Name.{is_name}
use Rattle.ov_types.specs.First.{◌<|>◌, first_of, same_name}
use Rattle.ov_types.specs.declared.packet.Range16.{Range16}
use Rattle.ov_types.specs.declared.packet.Tuple.{Tuple}
use Rattle.ov_types.proofs.FirstLemmas.{contains_at, contains_cases, contains_here, contains_later, found_is}
use Rattle.config_types.specs.Form.{has_action_form, has_chain_form, has_config_form, has_end_form, has_network_form, has_policy_form, has_port_form, has_protocol_form, has_rule_form, has_service_form, is_range}
use Rattle.config_types.specs.declared.config.Config.{Config}
use Rattle.config_types.specs.declared.config.Network.{Network}
use Rattle.config_types.specs.declared.config.Policy.{Policy}
use Rattle.config_types.specs.declared.config.Protocol.{Protocol}
use Rattle.config_types.specs.declared.config.Protocol.TheVariants as Of
use Rattle.config_types.specs.declared.config.Rule.{Rule}
use Rattle.config_types.specs.declared.topology.Topology.{Topology}
use Rattle.policy_rules.specs.Matching.{deciding, has_protocol, match_by, speaks_both_ways}
use Rattle.policy_rules.specs.Related.{fits, rules_between}
use Rattle.policy_rules.specs.Standing.{IsBetween}
use Rattle.policy_rules.specs.Taking.{IsTaken}
use Rattle.policy_rules.specs.declared.matching.Match.{Match}
use Rattle.policy_rules.specs.declared.numbered.NumberedRule.{NumberedRule}
use Rattle.policy_rules.proofs.Lists.{is_joined, is_kept}
use Rattle.policy_rules.proofs.Standing.{between_iff}
use Rattle.policy_rules.proofs.Taking.{deciding_iff}
use Rattle.policy_regions.specs.Parts.{IsTuple}
use Rattle.config_check.specs.Checked.{Checked}
use Rattle.config_check.specs.Sentences.{IsValid}
use Rattle.config_check.proofs.Iffs.{list_all_true}
use Rattle.reach_plain.proofs.Kept.{valid}
use Rattle.hitless_cells.specs.Keeping.{IsValidAsWritten}
use Rattle.hitless_cells.proofs.Named.{found_of}
use Rattle.hitless_cells.specs.Courses.{course_by, course_on}
use Rattle.hitless_cells.specs.declared.course.Course.{Course}
use Rattle.hitless_cells.specs.declared.course.Course.TheVariants.{Inside}
use Rattle.hitless_cells.proofs.Celled.{nothing}
use Rattle.hitless_cells.proofs.Sameness.{number_apart, same_number}

-- a number that is not among few

abbrev without : ℕ → List ℕ → List ℕ
without m xs = filter (λ x. not (eqb x m)) xs

less : (m : ℕ) (xs : List ℕ) → length (without m xs) ≤ length xs
less m [] = omega arith
less m (x ∷ xs) =
    let rest = less m xs in
    elim (eqb x m) as (λ b. length (cond (not b) (x ∷ without m xs) (without m xs)) ≤ suc (length xs)) [ true ↦ omega arith | false ↦ omega arith ]

shorter : (m : ℕ) (xs : List ℕ) → list_any (λ x. eqb x m) xs ≡ true → length (without m xs) < length xs
shorter m [] h = absurd cc
shorter m (x ∷ xs) h =
    elim (eqb x m) as (λ b. eqb x m ≡ b → length (cond (not b) (x ∷ without m xs) (without m xs)) < suc (length xs)) [
      | true ↦ λ e. let rest = less m xs in omega arith
      | false ↦ λ e. let rest = shorter m xs (later (eqb x m) (list_any (λ x. eqb x m) xs) e h) in omega arith
    ] refl
  where
    later : (a b : Bool) → a ≡ false → (a || b) ≡ true → b ≡ true
    later true b e k = absurd cc
    later false b e k = k

absent : (m : ℕ) (xs : List ℕ) → list_any (λ x. eqb x m) xs ≡ false → ¬ Contains xs m
absent m [] h at = nothing m at
absent m (x ∷ xs) h at =
    let parts = neither (eqb x m) (list_any (λ x. eqb x m) xs) h in
    elim (contains_cases x xs m at) [
      | inl here ↦ let never : false ≡ true = sym parts.0 ∙ ap (λ k. eqb k m) here ∙ same_number m in absurd cc
      | inr later ↦ absent m xs parts.1 later
    ]
  where
    neither : (a b : Bool) → (a || b) ≡ false → (a ≡ false) × (b ≡ false)
    neither true b h = absurd cc
    neither false b h = (refl, h)

-- a number below another is not in a list that is shorter
pub missing : (n : ℕ) (xs : List ℕ) → length xs < n → (k : ℕ) × (k < n) × ¬ Contains xs k
missing zero xs h = absurd (omega arith)
missing (suc m) xs h =
    elim (list_any (λ x. eqb x m) xs) as (λ b. list_any (λ x. eqb x m) xs ≡ b → (k : ℕ) × (k < suc m) × ¬ Contains xs k) [
      | true ↦ λ e.
          let fewer = shorter m xs e in
          let less = missing m (without m xs) (omega arith) in
          let lt : less.0 < m = less.1 in
          let other : less.0 ≢ m = omega arith in
          let kept : not (eqb less.0 m) ≡ true = ap not (number_apart less.0 m other) in
          (less.0, omega arith, λ at. less.2 (is_kept (λ x. not (eqb x m)) xs less.0 at kept))
      | false ↦ λ e. (m, omega arith, absent m xs e)
    ] refl

-- the protocols that rules name

abbrev pub number_of : Protocol → List ℕ
number_of Of.Any = []
number_of (Of.Number n) = n ∷ []

abbrev pub protocols : List Rule → List ℕ
protocols rs = flat_map (λ r. number_of r.protocol) rs

one_number : (p : Protocol) → length (number_of p) ≤ 1
one_number Of.Any = omega arith
one_number (Of.Number n) = omega arith

few_numbers : (rs : List Rule) → length (protocols rs) ≤ length rs
few_numbers [] = omega arith
few_numbers (r ∷ rs) =
    let first = one_number r.protocol in
    let rest = few_numbers rs in
    let sum : length (number_of r.protocol ++ protocols rs) ≡ length (number_of r.protocol) + length (protocols rs) = length-append (number_of r.protocol) (protocols rs) in
    omega arith

abbrev pub named_by : Config → List ℕ → List ℕ
named_by c name = option_map_or (λ (p : Policy). protocols p.rules) (find (λ (p : Policy). same_name p.name name) c.policies) []

module _ (t : Topology) (c : Config) (v : IsValid t c) where
  few_named : (name : List ℕ) → length (named_by c name) ≤ 16
  few_named name = by (find (λ (p : Policy). same_name p.name name) c.policies) (λ p e. All-contains (λ (p : Policy). length p.rules ≤ 16) c.policies p v.limits.rules (found_is (λ (p : Policy). same_name p.name name) c.policies p e).1)
    where
      by : (o : Option Policy) → ((p : Policy) → o ≡ Some p → length p.rules ≤ 16) → length (option_map_or (λ (p : Policy). protocols p.rules) o []) ≤ 16
      by None h = omega arith
      by (Some p) h = let most = h p refl in let few = few_numbers p.rules in omega arith

  few_of : (names : List (List ℕ)) → length (flat_map (named_by c) names) ≤ 16 * length names
  few_of [] = omega arith
  few_of (n ∷ ns) =
      let first = few_named n in
      let rest = few_of ns in
      let sum : length (named_by c n ++ flat_map (named_by c) ns) ≡ length (named_by c n) + length (flat_map (named_by c) ns) = length-append (named_by c n) (flat_map (named_by c) ns) in
      omega arith

  pub few : (a : Network) → Contains c.networks a → length (flat_map (named_by c) a.policies) ≤ 64
  few a at =
      let most = All-contains (λ (n : Network). length n.policies ≤ 4) c.networks a v.limits.attachments at in
      let all = few_of a.policies in
      omega arith

  number_in : (p : Protocol) (n : ℕ) → p ≡ Of.Number n → Contains (number_of p) n
  number_in p n e = subst (λ (p : Protocol). Contains (number_of p) n) (sym e) (contains_here n [])

  pub is_named : (a b : Network) (r : NumberedRule) (n : ℕ) → IsBetween c a b r → r.rule.protocol ≡ Of.Number n → Contains (flat_map (named_by c) a.policies) n
  is_named a b r n h e =
      let p : Policy = h.policy in
      let found : find (λ (q : Policy). same_name q.name p.name) c.policies ≡ Some p = found_of (λ (q : Policy). q.name) c.policies p.name p v.names.policies h.configured refl in
      let rule : Contains p.rules r.rule = contains_at p.rules h.place r.rule h.stands in
      let here : Contains (protocols p.rules) n = is_joined (λ (r : Rule). number_of r.protocol) p.rules r.rule n rule (number_in r.rule.protocol n e) in
      let by : Contains (named_by c p.name) n = subst (λ (o : Option Policy). Contains (option_map_or (λ (p : Policy). protocols p.rules) o []) n) (sym found) here in
      is_joined (named_by c) a.policies p.name n h.first_attaches by

-- the written form of rules

third_of_five : (a b c d e : Bool) → (a && b && c && d && e) ≡ true → c ≡ true
third_of_five a b c d e h = (and_parts (a && b) c (and_parts (a && b && c) d (and_parts (a && b && c && d) e h).0).0).1

policies_form : (c : Config) → IsTrue (has_config_form c) → All (λ p. IsTrue (has_policy_form p)) c.policies
unfolding has_config_form
policies_form c h =
    (list_all_true has_policy_form c.policies).0
    (third_of_five (list_all has_network_form c.networks) (list_all has_port_form c.ports) (list_all has_policy_form c.policies)
    (list_all has_service_form c.services) (list_all has_chain_form c.chains) h)

rules_form : (p : Policy) → IsTrue (has_policy_form p) → All (λ r. IsTrue (has_rule_form r)) p.rules
unfolding has_policy_form
rules_form p h = (list_all_true has_rule_form p.rules).0 (and_parts (is_name p.name && leb p.sequence 65535) (list_all has_rule_form p.rules) h).1

-- a rule names a protocol of 8 bits, and ports of 16
record IsSmall (r : Rule) : Type 0 where
  protocol : (n : ℕ) → r.protocol ≡ Of.Number n → n ≤ 255
  source : r.source_ports.hi ≤ 65535
  destination : r.destination_ports.hi ≤ 65535

small_range : (r : Range16) → is_range r ≡ true → r.hi ≤ 65535
small_range r h = leb-true r.hi 65535 (and_parts (leb r.lo r.hi) (leb r.hi 65535) h).1

small_protocol : (p : Protocol) → has_protocol_form p ≡ true → (n : ℕ) → p ≡ Of.Number n → n ≤ 255
small_protocol p h n e = leb-true n 255 (sym (ap has_protocol_form e) ∙ h)

is_small : (r : Rule) → IsTrue (has_rule_form r) → IsSmall r
unfolding has_rule_form
is_small r h =
    let e = has_end_form r.source in
    let d = has_end_form r.destination in
    let p = has_protocol_form r.protocol in
    let s = is_range r.source_ports in
    let u = is_range r.destination_ports in
    let five = and_parts (e && d && p && s && u) (has_action_form r.action) h in
    let four = and_parts (e && d && p && s) u five.0 in
    let three = and_parts (e && d && p) s four.0 in
    let two = and_parts (e && d) p three.0 in
    record { protocol = small_protocol r.protocol two.1; source = small_range r.source_ports three.1; destination = small_range r.destination_ports four.1 }

small_between : (c : Config) → IsTrue (has_config_form c) → (a b : Network) (r : NumberedRule) → IsBetween c a b r → IsSmall r.rule
small_between c form a b r h =
    let policy = All-contains (λ (p : Policy). IsTrue (has_policy_form p)) c.policies h.policy (policies_form c form) h.configured in
    is_small r.rule (All-contains (λ (r : Rule). IsTrue (has_rule_form r)) h.policy.rules r.rule (rules_form h.policy policy) (contains_at h.policy.rules h.place r.rule h.stands))

-- what decides on a tuple decides on one of another protocol that no rule tells apart

same_first : {A B : Type 0} (f g : A → Option B) (xs : List A) → ((x : A) → Contains xs x → f x ≡ g x) → first_of f xs ≡ first_of g xs
same_first f g [] h = refl
same_first f g (x ∷ xs) h =
    let here : f x ≡ g x = h x (contains_here x xs) in
    let rest : first_of f xs ≡ first_of g xs = same_first f g xs (λ y at. h y (contains_later y x xs at)) in
    λ i. here i <|> rest i

abbrev with_proto : ℕ → Tuple → Tuple
with_proto n t = record { proto = n; sport = t.sport; dport = t.dport }

-- how a rule matches, by whether it speaks of the protocol
abbrev by_protocol : Network → Network → Tuple → NumberedRule → Bool → Option Match
by_protocol a b t r q =
    cond (fits r.rule a b && q && in_range r.rule.source_ports t.sport && in_range r.rule.destination_ports t.dport) (Some (record { rule = r; mirrored = false }))
    (cond (speaks_both_ways r.rule.direction && fits r.rule b a && q && in_range r.rule.source_ports t.dport && in_range r.rule.destination_ports t.sport)
    (Some (record { rule = r; mirrored = true })) None)

same_match : (a b : Network) (t : Tuple) (n : ℕ) (r : NumberedRule) → has_protocol r.rule.protocol n ≡ has_protocol r.rule.protocol t.proto
    → match_by a b (with_proto n t) r ≡ match_by a b t r
same_match a b t n r e = ap (by_protocol a b t r) e

same_deciding : (c : Config) (a b : Network) (t : Tuple) (n : ℕ) → ((r : NumberedRule) → Contains (rules_between c a b) r → has_protocol r.rule.protocol n ≡ has_protocol r.rule.protocol t.proto)
    → deciding c a b (with_proto n t) ≡ deciding c a b t
unfolding deciding
same_deciding c a b t n h =
    same_first (match_by a b (with_proto n t)) (match_by a b t) (rules_between c a b) (λ r at. same_match a b t n r (h r at))

not_told : (p : Protocol) (n k : ℕ) → ((m : ℕ) → p ≡ Of.Number m → (m ≢ n) × (m ≢ k)) → has_protocol p n ≡ has_protocol p k
not_told Of.Any n k h = refl
not_told (Of.Number m) n k h = let apart = h m refl in number_apart m n apart.0 ∙ sym (number_apart m k apart.1)

module _ (x : Checked) (v : IsValidAsWritten x) (a b : Network) (t : Tuple) where
  abbrev ok : IsValid x.topology x.config
  ok = valid x.topology x.config v.valid

  not_told_apart : (n : ℕ) → ¬ Contains (flat_map (named_by x.config) a.policies) n → 255 < t.proto → deciding x.config a b (with_proto n t) ≡ deciding x.config a b t
  not_told_apart n absent above =
      same_deciding x.config a b t n (λ r at.
      let is = (between_iff x.config a b r).0 at in
      not_told r.rule.protocol n t.proto (λ m e. (
        λ same. absent (subst (Contains (flat_map (named_by x.config) a.policies)) same (is_named x.topology x.config ok a b r m is e)),
        λ same. let low = (small_between x.config v.form a b r is).protocol m e in absurd (omega arith),
      )))

  -- the ports of a tuple on which a rule decides
  ports_of : (m : Match) → deciding x.config a b t ≡ Some m → (t.sport ≤ 65535) × (t.dport ≤ 65535)
  ports_of m e =
      let d = (deciding_iff x.config a b t m).0 e in
      let at = contains_at (rules_between x.config a b) d.place m.rule d.stands in
      let small = small_between x.config v.form a b m.rule ((between_iff x.config a b m.rule).0 at) in
      by m.mirrored small d.taken
    where
      by : (mirrored : Bool) → IsSmall m.rule.rule → IsTaken a b t m.rule.rule mirrored → (t.sport ≤ 65535) × (t.dport ≤ 65535)
      by false small h = (omega (arith, h.source_port.to, small.source), omega (arith, h.destination_port.to, small.destination))
      by true small h = (omega (arith, h.0.destination_port.to, small.destination), omega (arith, h.0.source_port.to, small.source))

  ports_by : (o : Option Match) (w : Course) → deciding x.config a b t ≡ o → course_by o ≡ Some w → (t.sport ≤ 65535) × (t.dport ≤ 65535)
  ports_by None w e h = absurd cc
  ports_by (Some m) w e h = ports_of m e

  abbrev small : ℕ → ℕ
  small m = cond (leb m 65535) m 0

  small_is : (m : ℕ) → m ≤ 65535 → small m ≡ m
  small_is m h = ap (λ (b : Bool). cond b m 0) (le-leb m 65535 h)

  goes_so : (n : ℕ) (w : Course) → deciding x.config a b (with_proto n t) ≡ deciding x.config a b t → course_on x.config a b t ≡ Some w
      → course_on x.config a b (record { proto = n; sport = small t.sport; dport = small t.dport }) ≡ Some w
  goes_so n w same h =
      let u : Tuple = record { proto = n; sport = small t.sport; dport = small t.dport } in
      elim (same_name b.name a.name) as (λ q. cond q (Some Inside) (course_by (deciding x.config a b t)) ≡ Some w → cond q (Some Inside) (course_by (deciding x.config a b u)) ≡ Some w) [
        | true ↦ λ k. k
        | false ↦ λ k.
            let ports = ports_by (deciding x.config a b t) w refl k in
            let is : u ≡ with_proto n t = λ i. record { proto = n; sport = small_is t.sport ports.0 i; dport = small_is t.dport ports.1 i } in
            ap (λ (t : Tuple). course_by (deciding x.config a b t)) is ∙ ap course_by same ∙ k
      ] h

-- a tuple of a packet's numbers that goes as another
pub record Narrower (x y : Checked) (a b c d : Network) (t : Tuple) (was becomes : Course) : Type 0 where
  pub tuple : Tuple
  pub is : IsTuple tuple
  pub as_it_is : IsTuple t → tuple ≡ t
  pub before : course_on x.config a b tuple ≡ Some was
  pub after : course_on y.config c d tuple ≡ Some becomes

module _ (x y : Checked) (v : IsValidAsWritten x) (w : IsValidAsWritten y) (a b c d : Network) (in_x : Contains x.config.networks a) (in_y : Contains y.config.networks c)
    (t : Tuple) (was becomes : Course) (goes_x : course_on x.config a b t ≡ Some was) (goes_y : course_on y.config c d t ≡ Some becomes) where
  small_at_most : (m : ℕ) → cond (leb m 65535) m 0 ≤ 65535
  small_at_most m = elim (leb m 65535) as (λ b. leb m 65535 ≡ b → cond b m 0 ≤ 65535) [ true ↦ λ e. leb-true m 65535 e | false ↦ λ e. omega arith ] refl

  narrower_by : (n : ℕ) → n ≤ 255 → (t.proto ≤ 255 → n ≡ t.proto) → deciding x.config a b (with_proto n t) ≡ deciding x.config a b t
      → deciding y.config c d (with_proto n t) ≡ deciding y.config c d t → Narrower x y a b c d t was becomes
  narrower_by n low as_low same_x same_y =
      record {
        tuple = record { proto = n; sport = cond (leb t.sport 65535) t.sport 0; dport = cond (leb t.dport 65535) t.dport 0 };
        is = record { proto = low; sport = small_at_most t.sport; dport = small_at_most t.dport };
        as_it_is = λ is.
            let proto : n ≡ t.proto = as_low is.proto in
            let sport = small_is x v a b t t.sport is.sport in
            let dport = small_is x v a b t t.dport is.dport in
            λ i. record { proto = proto i; sport = sport i; dport = dport i };
        before = goes_so x v a b t n was same_x goes_x;
        after = goes_so y w c d t n becomes same_y goes_y;
      }

  pub narrowed : Narrower x y a b c d t was becomes
  narrowed =
      elim (leb t.proto 255) as (λ q. leb t.proto 255 ≡ q → Narrower x y a b c d t was becomes) [
        | true ↦ λ e. narrower_by t.proto (leb-true t.proto 255 e) (λ h. refl) refl refl
        | false ↦ λ e.
            let above : 255 < t.proto = leb-false t.proto 255 e in
            let first : List ℕ = flat_map (named_by x.config) a.policies in
            let second : List ℕ = flat_map (named_by y.config) c.policies in
            let most_x = few x.topology x.config (ok x v a b t) a in_x in
            let most_y = few y.topology y.config (ok y w c d t) c in_y in
            let sum : length (first ++ second) ≡ length first + length second = length-append first second in
            let k = missing 256 (first ++ second) (omega arith) in
            let low : k.0 < 256 = k.1 in
            narrower_by k.0 (omega arith) (λ h. absurd (omega arith))
            (not_told_apart x v a b t k.0 (λ at. k.2 (Contains-append_left first second k.0 at)) above)
            (not_told_apart y w c d t k.0 (λ at. k.2 (Contains-append_right first second k.0 at)) above)
      ] refl
