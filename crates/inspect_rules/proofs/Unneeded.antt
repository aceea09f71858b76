-- What is found idle of a configuration is what is.
use Rattle.std.proofs.Common.{◌≡◌, ◌≢◌, ◌↔◌, ◌⊎◌, ◌<◌, ◌+◌, ◌==◌, ◌&&◌, ℕ, zero, suc, ltb, Bool, true, false, cond, not, List, [], ◌∷◌, ◌++◌, None, Some, map, flat_map, inl, inr}
use Rattle.std.proofs.Common.{refl, sym, ap, ◌∙◌, subst, arith}
use Rattle.std.specs.Prelude.{slice_get}
use Rattle.std.specs.Bool.{Decides}
use Rattle.std.specs.List.{Contains, list_any}
use Rattle.std.proofs.lemmas.Bool.{and_from, and_parts, false_from_ne_true, ltb-true, lt-ltb}
use Rattle.std.proofs.lemmas.Bool.Decides.{Decides-and, Decides-or, Decides-ltb}
use Rattle.std.proofs.lemmas.List.Elements.{All-contains, Contains-append_cases, Contains-append_left, Contains-append_right}
use Rattle.std.proofs.lemmas.List.Folds.{Any-from_list_any, list_any-from_Any}
use Rattle.ov_types.specs.First.{same_name}
use Rattle.ov_types.specs.declared.packet.RuleNo.{RuleNo}
use Rattle.ov_types.proofs.FirstLemmas.{any_of, contains_cases, contains_here, contains_later, pairs_head, pairs_tail, same_name_iff}
use Rattle.config_types.specs.declared.config.Action.{Action}
use Rattle.config_types.specs.declared.config.Action.TheVariants.{Pass, Deny, Through}
use Rattle.config_types.specs.declared.config.Chain.{Chain}
use Rattle.config_types.specs.declared.config.Config.{Config}
use Rattle.config_types.specs.declared.config.End.{End}
use Rattle.config_types.specs.declared.config.End.TheVariants.{Any, Named}
use Rattle.config_types.specs.declared.config.Network.{Network}
use Rattle.config_types.specs.declared.config.Policy.{Policy}
use Rattle.config_types.specs.declared.config.Rule.{Rule}
use Rattle.config_types.specs.declared.topology.Topology.{Topology}
use Rattle.config_check.specs.Rules.{first_broken}
use Rattle.config_check.specs.Sentences.{AreDistinct}
use Rattle.policy_rules.specs.declared.numbered.NumberedRule.{NumberedRule}
use Rattle.policy_rules.specs.Related.{all_rules, attaches, fits, numbered_from, numbered_rules}
use Rattle.policy_rules.specs.Standing.{ComesBefore, Fits, IsBetween}
use Rattle.policy_rules.proofs.Lists.{is_joined, is_mapped, joined_is}
use Rattle.policy_rules.proofs.Standing.{attaches_iff, fits_iff}
use Rattle.reach_plain.proofs.Kept.{valid}
use Rattle.inspect_rules.specs.Deciders.{DecidesSome, decides_some}
use Rattle.inspect_rules.specs.Idle.{attached_count, attaches_both, attaches_rule, before_of, both_between, both_from, comes_before, has_use, idle, idle_chain, idle_policy, idle_rule, is_attached_end, is_use, leads_by, speaks_between, stands_before}
use Rattle.inspect_rules.specs.IdleSentences.{AreBefore, HasRuleLine, IsAllIdle, IsIdleChain, IsIdlePolicy, IsIdleRule, IsInUse, StandsBefore}
use Rattle.inspect_rules.specs.declared.idle.Idle.{Idle}
use Rattle.inspect_rules.specs.declared.idle.Idle.TheVariants as Is
use Rattle.inspect_rules.proofs.Deciding.{decides_iff}

-- a list of one, or of none

sole : {A : Type 0} (x y : A) → Contains (x ∷ []) y → x ≡ y
sole x y at = elim (contains_cases x [] y at) [
  | inl same ↦ same
  | inr later ↦ absurd (let lt = later.1 in omega arith)
]

in_one : {A : Type 0} (b : Bool) (x y : A) → Contains (cond b (x ∷ []) []) y → (b ≡ true) × (x ≡ y)
in_one true x y at = (refl, sole x y at)
in_one false x y at = absurd (let lt = at.1 in omega arith)

in_other : {A : Type 0} (b : Bool) (x y : A) → Contains (cond b [] (x ∷ [])) y → (b ≡ false) × (x ≡ y)
in_other true x y at = absurd (let lt = at.1 in omega arith)
in_other false x y at = (refl, sole x y at)

one_in : {A : Type 0} (b : Bool) (x y : A) → b ≡ true → x ≡ y → Contains (cond b (x ∷ []) []) y
one_in true x y h e = subst (Contains (x ∷ [])) e (contains_here x [])
one_in false x y h e = absurd cc

other_in : {A : Type 0} (b : Bool) (x y : A) → b ≡ false → x ≡ y → Contains (cond b [] (x ∷ [])) y
other_in true x y h e = absurd cc
other_in false x y h e = subst (Contains (x ∷ [])) e (contains_here x [])

any_true : {A : Type 0} (p : A → Bool) (xs : List A) (x : A) → Contains xs x → p x ≡ true → list_any p xs ≡ true
any_true p xs x at h = list_any-from_Any p xs (any_of (λ x. p x ≡ true) xs x at h)

some_of : {A : Type 0} (p : A → Bool) (xs : List A) → list_any p xs ≡ true → (x : A) × Contains xs x × (p x ≡ true)
some_of p xs h = let found = Any-from_list_any p xs h in (found.1, (found.0, found.2, found.3), found.4)

number_self : (n : ℕ) → (n == n) ≡ true
number_self n = grind arith

number_is : (m n : ℕ) → (m == n) ≡ true → m ≡ n
number_is m n h = grind arith

number_iff : (m n : ℕ) → Decides (m == n) (m ≡ n)
number_iff m n = (number_is m n, λ e. ap (λ k. m == k) (sym e) ∙ number_self m)

-- the places of rules

pub record IsPlaced (sequence first : ℕ) (rules : List Rule) (r : NumberedRule) : Type 0 where
  pub place : ℕ
  pub stands : slice_get rules place ≡ Some r.rule
  pub sequence_is : r.number.sequence ≡ sequence
  pub position_is : r.number.position ≡ first + place

placed_is : (sequence first : ℕ) (rules : List Rule) (r : NumberedRule) → Contains (numbered_from sequence first rules) r → IsPlaced sequence first rules r
placed_is sequence first [] r at = absurd (let lt = at.1 in omega arith)
placed_is sequence first (q ∷ qs) r at =
    elim (contains_cases (record { number = record { sequence = sequence; position = first }; rule = q }) (numbered_from sequence (first + 1) qs) r at) [
      | inl same ↦
          let position : first ≡ r.number.position = ap (λ (s : NumberedRule). s.number.position) same in
          record {
            place = zero;
            stands = ap (λ (s : NumberedRule). Some s.rule) same;
            sequence_is = sym (ap (λ (s : NumberedRule). s.number.sequence) same);
            position_is = omega (arith, position);
          }
      | inr later ↦
          let rest = placed_is sequence (first + 1) qs r later in
          record {
            place = suc rest.place;
            stands = rest.stands;
            sequence_is = rest.sequence_is;
            position_is = omega (arith, rest.position_is);
          }
    ]

some_is : {A : Type 0} (x y : A) → Some x ≡ Some y → x ≡ y
some_is x y h = cc

is_placed : (sequence first : ℕ) (rules : List Rule) (place : ℕ) (r : NumberedRule) → slice_get rules place ≡ Some r.rule
    → r.number.sequence ≡ sequence → r.number.position ≡ first + place → Contains (numbered_from sequence first rules) r
is_placed sequence first [] place r h e f = absurd cc
is_placed sequence first (q ∷ qs) zero r h e f =
    let here : NumberedRule = record { number = record { sequence = sequence; position = first }; rule = q } in
    let rule : q ≡ r.rule = some_is q r.rule h in
    let position : first ≡ r.number.position = omega (arith, f) in
    let same : here ≡ r = λ i. record { number = record { sequence = sym e i; position = position i }; rule = rule i } in
    subst (Contains (here ∷ numbered_from sequence (first + 1) qs)) same (contains_here here (numbered_from sequence (first + 1) qs))
is_placed sequence first (q ∷ qs) (suc place) r h e f =
    let next : r.number.position ≡ (first + 1) + place = omega (arith, f) in
    contains_later r (record { number = record { sequence = sequence; position = first }; rule = q }) (numbered_from sequence (first + 1) qs)
    (is_placed sequence (first + 1) qs place r h e next)

-- no two policies of a valid configuration have one sequence

abbrev Apart : Config → Type 0
Apart c = AreDistinct (map (λ (p : Policy). p.sequence) c.policies)

only_one : (ps : List Policy) → AreDistinct (map (λ (p : Policy). p.sequence) ps) → (p q : Policy) → Contains ps p → Contains ps q → p.sequence ≡ q.sequence → p ≡ q
only_one [] apart p q p_stands q_stands e = absurd (let lt = p_stands.1 in omega arith)
only_one (x ∷ xs) apart p q p_stands q_stands e =
    let S : Policy → ℕ = λ (p : Policy). p.sequence in
    let others : (y : Policy) → Contains xs y → x.sequence ≢ y.sequence =
    λ y at. All-contains (λ (n : ℕ). x.sequence ≢ n) (map S xs) y.sequence (pairs_head (λ (m n : ℕ). m ≢ n) x.sequence (map S xs) apart) (is_mapped S xs y at) in
    elim (contains_cases x xs p p_stands) [
      | inl first ↦
          elim (contains_cases x xs q q_stands) [
            | inl second ↦ sym first ∙ second
            | inr later ↦ absurd (others q later (ap S first ∙ e))
          ]
      | inr later ↦
          elim (contains_cases x xs q q_stands) [
            | inl second ↦ absurd (others p later (ap S second ∙ sym e))
            | inr rest ↦ only_one xs (pairs_tail (λ (m n : ℕ). m ≢ n) x.sequence (map S xs) apart) p q later rest e
          ]
    ]

-- which rules stand between two networks

attaches_its : (c : Config) → Apart c → (a : Network) (p : Policy) (n : RuleNo) → Contains c.policies p → n.sequence ≡ p.sequence
    → attaches_rule c a n ≡ true → Contains a.policies p.name
attaches_its c apart a p n stands e h =
    let found = some_of (λ (q : Policy). (q.sequence == n.sequence) && attaches a q) c.policies h in
    let q : Policy = found.0 in
    let parts = and_parts (q.sequence == n.sequence) (attaches a q) found.2 in
    let same : q ≡ p = only_one c.policies apart q p found.1 stands (number_is q.sequence n.sequence parts.0 ∙ e) in
    (attaches_iff a p).0 (subst (λ (p : Policy). attaches a p ≡ true) same parts.1)

its_attaches : (c : Config) (a : Network) (p : Policy) (n : RuleNo) → Contains c.policies p → n.sequence ≡ p.sequence
    → Contains a.policies p.name → attaches_rule c a n ≡ true
its_attaches c a p n stands e h =
    any_true (λ (q : Policy). (q.sequence == n.sequence) && attaches a q) c.policies p stands
    (and_from (p.sequence == n.sequence) (attaches a p) ((number_iff p.sequence n.sequence).1 (sym e)) ((attaches_iff a p).1 h))

speaks_iff : (r : Rule) (a b : Network) → Decides (speaks_between r a b) (Fits r a b ⊎ Fits r b a)
speaks_iff r a b = Decides-or (fits r a b) (fits r b a) (fits_iff r a b) (fits_iff r b a)

stands_between : (c : Config) → Apart c → (a b : Network) (r : NumberedRule) → Contains (all_rules c) r → attaches_rule c a r.number ≡ true
    → attaches_rule c b r.number ≡ true → speaks_between r.rule a b ≡ true → IsBetween c a b r
stands_between c apart a b r at first second speaks =
    let from = joined_is numbered_rules c.policies r at in
    let p : Policy = from.0 in
    let placed = placed_is p.sequence 1 p.rules r from.2 in
    record {
      policy = p;
      place = placed.place;
      configured = from.1;
      first_attaches = attaches_its c apart a p r.number from.1 placed.sequence_is first;
      second_attaches = attaches_its c apart b p r.number from.1 placed.sequence_is second;
      stands = placed.stands;
      sequence = placed.sequence_is;
      position = omega (arith, placed.position_is);
      fits = (speaks_iff r.rule a b).0 speaks;
    }

is_configured : (c : Config) (a b : Network) (r : NumberedRule) → IsBetween c a b r → Contains (all_rules c) r
is_configured c a b r k =
    let position : r.number.position ≡ 1 + k.place = omega (arith, k.position) in
    is_joined numbered_rules c.policies k.policy r k.configured (is_placed k.policy.sequence 1 k.policy.rules k.place r k.stands k.sequence position)

-- which rules stand before a rule

before_iff : (m n : RuleNo) → Decides (comes_before m n) (ComesBefore m n)
before_iff m n =
    Decides-or (ltb m.sequence n.sequence) ((m.sequence == n.sequence) && ltb m.position n.position) (Decides-ltb m.sequence n.sequence)
    (Decides-and (m.sequence == n.sequence) (ltb m.position n.position) (number_iff m.sequence n.sequence) (Decides-ltb m.position n.position))

differ_is : (a b : List ℕ) (q : Bool) → same_name a b ≡ q → not q ≡ true → a ≢ b
differ_is a b true e h = λ same. cc
differ_is a b false e h = λ same. let two : true ≡ false = sym ((same_name_iff a b).1 same) ∙ e in cc

is_differ : (a b : List ℕ) (q : Bool) → same_name a b ≡ q → a ≢ b → not q ≡ true
is_differ a b true e h = absurd (h ((same_name_iff a b).0 e))
is_differ a b false e h = refl

stands_is : (c : Config) → Apart c → (n m : NumberedRule) → Contains (all_rules c) n → Contains (all_rules c) m → stands_before c n m ≡ true
    → StandsBefore c n m.number
stands_is c apart n m n_stands m_stands h =
    let whole = and_parts (comes_before m.number n.number) (list_any (both_from c m n) c.networks) h in
    let from = some_of (both_from c m n) c.networks whole.1 in
    let a : Network = from.0 in
    let first = and_parts (attaches_both c m n a) (list_any (both_between c m n a) c.networks) from.2 in
    let at_first = and_parts (attaches_rule c a m.number) (attaches_rule c a n.number) first.0 in
    let to = some_of (both_between c m n a) c.networks first.1 in
    let b : Network = to.0 in
    let second = and_parts (not (same_name a.name b.name)) (attaches_both c m n b && (speaks_between m.rule a b && speaks_between n.rule a b)) to.2 in
    let third = and_parts (attaches_both c m n b) (speaks_between m.rule a b && speaks_between n.rule a b) second.1 in
    let at_second = and_parts (attaches_rule c b m.number) (attaches_rule c b n.number) third.0 in
    let speak = and_parts (speaks_between m.rule a b) (speaks_between n.rule a b) third.1 in
    record {
      from = a;
      to = b;
      from_stands = from.1;
      to_stands = to.1;
      differ = differ_is a.name b.name (same_name a.name b.name) refl second.0;
      rule = m;
      is = refl;
      stands = stands_between c apart a b m m_stands at_first.0 at_second.0 speak.0;
      behind_stands = stands_between c apart a b n n_stands at_first.1 at_second.1 speak.1;
      in_order = (before_iff m.number n.number).0 whole.0;
    }

first_attaches_rule : (c : Config) (a b : Network) (r : NumberedRule) → IsBetween c a b r → attaches_rule c a r.number ≡ true
first_attaches_rule c a b r k = its_attaches c a k.policy r.number k.configured k.sequence k.first_attaches

second_attaches_rule : (c : Config) (a b : Network) (r : NumberedRule) → IsBetween c a b r → attaches_rule c b r.number ≡ true
second_attaches_rule c a b r k = its_attaches c b k.policy r.number k.configured k.sequence k.second_attaches

is_standing : (c : Config) (n m : NumberedRule) (a b : Network) → Contains c.networks a → Contains c.networks b → a.name ≢ b.name
    → IsBetween c a b m → IsBetween c a b n → ComesBefore m.number n.number → stands_before c n m ≡ true
is_standing c n m a b a_stands b_stands differ m_between n_between order =
    let at_first = and_from (attaches_rule c a m.number) (attaches_rule c a n.number) (first_attaches_rule c a b m m_between) (first_attaches_rule c a b n n_between) in
    let at_second = and_from (attaches_rule c b m.number) (attaches_rule c b n.number) (second_attaches_rule c a b m m_between) (second_attaches_rule c a b n n_between) in
    let speak = and_from (speaks_between m.rule a b) (speaks_between n.rule a b) ((speaks_iff m.rule a b).1 m_between.fits) ((speaks_iff n.rule a b).1 n_between.fits) in
    let between : both_between c m n a b ≡ true =
    and_from (not (same_name a.name b.name)) (attaches_both c m n b && (speaks_between m.rule a b && speaks_between n.rule a b))
    (is_differ a.name b.name (same_name a.name b.name) refl differ)
    (and_from (attaches_both c m n b) (speaks_between m.rule a b && speaks_between n.rule a b) at_second speak) in
    let from : both_from c m n a ≡ true =
    and_from (attaches_both c m n a) (list_any (both_between c m n a) c.networks) at_first (any_true (both_between c m n a) c.networks b b_stands between) in
    and_from (comes_before m.number n.number) (list_any (both_from c m n) c.networks) ((before_iff m.number n.number).1 order)
    (any_true (both_from c m n) c.networks a a_stands from)

before_is : (c : Config) → Apart c → (n : NumberedRule) → Contains (all_rules c) n → (m : RuleNo)
    → Contains (flat_map (before_of c n) (all_rules c)) m ↔ StandsBefore c n m
before_is c apart n stands m = (
  λ at.
      let from = joined_is (before_of c n) (all_rules c) m at in
      let one = in_one (stands_before c n from.0) from.0.number m from.2 in
      subst (StandsBefore c n) one.1 (stands_is c apart n from.0 stands from.1 one.0),
  λ k.
      let before : ComesBefore k.rule.number n.number = subst (λ (m : RuleNo). ComesBefore m n.number) (sym k.is) k.in_order in
      let holds = is_standing c n k.rule k.from k.to k.from_stands k.to_stands k.differ k.stands k.behind_stands before in
      is_joined (before_of c n) (all_rules c) k.rule m (is_configured c k.from k.to k.rule k.stands)
      (one_in (stands_before c n k.rule) k.rule.number m holds k.is),
)

-- uses of chains

end_is : (c : Config) (p : Policy) (e : End) → is_attached_end c p e ≡ true
    → (a : Network) × Contains c.networks a × (e ≡ Named a.name) × Contains a.policies p.name
end_is c p Any h = absurd cc
end_is c p (Named name) h =
    let found = some_of (λ (a : Network). same_name name a.name && attaches a p) c.networks h in
    let a : Network = found.0 in
    let parts = and_parts (same_name name a.name) (attaches a p) found.2 in
    (a, found.1, ap Named ((same_name_iff name a.name).0 parts.0), (attaches_iff a p).0 parts.1)

is_end : (c : Config) (p : Policy) (a : Network) → Contains c.networks a → Contains a.policies p.name → is_attached_end c p (Named a.name) ≡ true
is_end c p a stands attached =
    any_true (λ (b : Network). same_name a.name b.name && attaches b p) c.networks a stands
    (and_from (same_name a.name a.name) (attaches a p) ((same_name_iff a.name a.name).1 refl) ((attaches_iff a p).1 attached))

leads_is : (chain : List ℕ) (action : Action) → leads_by chain action ≡ true → (use_no : ℕ) × (action ≡ Through chain use_no)
leads_is chain Pass h = absurd cc
leads_is chain Deny h = absurd cc
leads_is chain (Through by use_no) h = (use_no, ap (λ (name : List ℕ). Through name use_no) ((same_name_iff by chain).0 h))

in_use : (c : Config) (chain : List ℕ) → list_any (has_use c chain) c.policies ≡ true → IsInUse c chain
in_use c chain h =
    let by = some_of (has_use c chain) c.policies h in
    let p : Policy = by.0 in
    let of = some_of (is_use c chain p) p.rules by.2 in
    let r : Rule = of.0 in
    let parts = and_parts (leads_by chain r.action) (is_attached_end c p r.source && is_attached_end c p r.destination) of.2 in
    let ends = and_parts (is_attached_end c p r.source) (is_attached_end c p r.destination) parts.1 in
    let leads = leads_is chain r.action parts.0 in
    let source = end_is c p r.source ends.0 in
    let destination = end_is c p r.destination ends.1 in
    record {
      policy = p;
      rule = r;
      use_no = leads.0;
      from = source.0;
      to = destination.0;
      configured = by.1;
      stands = of.1;
      leads = leads.1;
      source = source.2;
      destination = destination.2;
      from_stands = source.1;
      to_stands = destination.1;
      from_attaches = source.3;
      to_attaches = destination.3;
    }

use_in : (c : Config) (chain : List ℕ) → IsInUse c chain → list_any (has_use c chain) c.policies ≡ true
use_in c chain u =
    let p = u.policy in
    let r = u.rule in
    let leads : leads_by chain r.action ≡ true = ap (leads_by chain) u.leads ∙ (same_name_iff chain chain).1 refl in
    let source : is_attached_end c p r.source ≡ true = ap (is_attached_end c p) u.source ∙ is_end c p u.from u.from_stands u.from_attaches in
    let destination : is_attached_end c p r.destination ≡ true = ap (is_attached_end c p) u.destination ∙ is_end c p u.to u.to_stands u.to_attaches in
    let holds : is_use c chain p r ≡ true =
    and_from (leads_by chain r.action) (is_attached_end c p r.source && is_attached_end c p r.destination) leads
    (and_from (is_attached_end c p r.source) (is_attached_end c p r.destination) source destination) in
    any_true (has_use c chain) c.policies p u.configured (any_true (is_use c chain p) p.rules r u.stands holds)

-- what is found

same_rules : (m n : RuleNo) (xs ys : List RuleNo) → Is.Rule m xs ≡ Is.Rule n ys → (m ≡ n) × (xs ≡ ys)
same_rules m n xs ys e = (cc, cc)

same_policies : (a b : List ℕ) (m n : ℕ) → Is.Policy a m ≡ Is.Policy b n → (a ≡ b) × (m ≡ n)
same_policies a b m n e = (cc, cc)

same_chains : (a b : List ℕ) → Is.Chain a ≡ Is.Chain b → a ≡ b
same_chains a b e = cc

abbrev rules_found : Config → List Idle
rules_found c = flat_map (idle_rule c) (all_rules c)

abbrev policies_found : Config → List Idle
policies_found c = flat_map (idle_policy c) c.policies

abbrev chains_found : Config → List Idle
chains_found c = flat_map (idle_chain c) c.chains

record RuleFound (c : Config) (x : Idle) : Type 0 where
  pub rule : NumberedRule
  pub configured : Contains (all_rules c) rule
  pub decides_none : decides_some c rule.number ≡ false
  pub is : Is.Rule rule.number (flat_map (before_of c rule) (all_rules c)) ≡ x

record PolicyFound (c : Config) (x : Idle) : Type 0 where
  pub policy : Policy
  pub configured : Contains c.policies policy
  pub few : ltb (attached_count policy c.networks) 2 ≡ true
  pub is : Is.Policy policy.name (attached_count policy c.networks) ≡ x

record ChainFound (c : Config) (x : Idle) : Type 0 where
  pub chain : Chain
  pub configured : Contains c.chains chain
  pub without_use : list_any (has_use c chain.name) c.policies ≡ false
  pub is : Is.Chain chain.name ≡ x

found_is : (c : Config) (x : Idle) → Contains (idle c) x → RuleFound c x ⊎ (PolicyFound c x ⊎ ChainFound c x)
unfolding idle
found_is c x at =
    elim (Contains-append_cases (rules_found c) (policies_found c ++ chains_found c) x at) [
      | inl here ↦
          let from = joined_is (idle_rule c) (all_rules c) x here in
          let one = in_other (decides_some c from.0.number) (Is.Rule from.0.number (flat_map (before_of c from.0) (all_rules c))) x from.2 in
          inl (record { rule = from.0; configured = from.1; decides_none = one.0; is = one.1 })
      | inr later ↦
          elim (Contains-append_cases (policies_found c) (chains_found c) x later) [
            | inl here ↦
                let from = joined_is (idle_policy c) c.policies x here in
                let count = attached_count from.0 c.networks in
                let one = in_one (ltb count 2) (Is.Policy from.0.name count) x from.2 in
                inr (inl (record { policy = from.0; configured = from.1; few = one.0; is = one.1 }))
            | inr last ↦
                let from = joined_is (idle_chain c) c.chains x last in
                let one = in_other (list_any (has_use c from.0.name) c.policies) (Is.Chain from.0.name) x from.2 in
                inr (inr (record { chain = from.0; configured = from.1; without_use = one.0; is = one.1 }))
          ]
    ]

found_rule : (c : Config) (number : RuleNo) (before : List RuleNo) → Contains (idle c) (Is.Rule number before) → RuleFound c (Is.Rule number before)
found_rule c number before at = elim (found_is c (Is.Rule number before) at) [
  | inl rule ↦ rule
  | inr others ↦ elim others [
    | inl policy ↦ absurd (let no = policy.is in cc)
    | inr chain ↦ absurd (let no = chain.is in cc)
  ]
]

found_policy : (c : Config) (name : List ℕ) (networks : ℕ) → Contains (idle c) (Is.Policy name networks) → PolicyFound c (Is.Policy name networks)
found_policy c name networks at = elim (found_is c (Is.Policy name networks) at) [
  | inl rule ↦ absurd (let no = rule.is in cc)
  | inr others ↦ elim others [
    | inl policy ↦ policy
    | inr chain ↦ absurd (let no = chain.is in cc)
  ]
]

found_chain : (c : Config) (name : List ℕ) → Contains (idle c) (Is.Chain name) → ChainFound c (Is.Chain name)
found_chain c name at = elim (found_is c (Is.Chain name) at) [
  | inl rule ↦ absurd (let no = rule.is in cc)
  | inr others ↦ elim others [
    | inl policy ↦ absurd (let no = policy.is in cc)
    | inr chain ↦ chain
  ]
]

rule_found : (c : Config) (r : NumberedRule) → Contains (all_rules c) r → decides_some c r.number ≡ false
    → Contains (idle c) (Is.Rule r.number (flat_map (before_of c r) (all_rules c)))
unfolding idle
rule_found c r at none =
    let line = Is.Rule r.number (flat_map (before_of c r) (all_rules c)) in
    Contains-append_left (rules_found c) (policies_found c ++ chains_found c) line
    (is_joined (idle_rule c) (all_rules c) r line at (other_in (decides_some c r.number) line line none refl))

policy_found : (c : Config) (p : Policy) → Contains c.policies p → ltb (attached_count p c.networks) 2 ≡ true
    → Contains (idle c) (Is.Policy p.name (attached_count p c.networks))
unfolding idle
policy_found c p at few =
    let line = Is.Policy p.name (attached_count p c.networks) in
    Contains-append_right (rules_found c) (policies_found c ++ chains_found c) line
    (Contains-append_left (policies_found c) (chains_found c) line
    (is_joined (idle_policy c) c.policies p line at (one_in (ltb (attached_count p c.networks) 2) line line few refl)))

chain_found : (c : Config) (k : Chain) → Contains c.chains k → list_any (has_use c k.name) c.policies ≡ false → Contains (idle c) (Is.Chain k.name)
unfolding idle
chain_found c k at none =
    let line = Is.Chain k.name in
    Contains-append_right (rules_found c) (policies_found c ++ chains_found c) line
    (Contains-append_right (policies_found c) (chains_found c) line
    (is_joined (idle_chain c) c.chains k line at (other_in (list_any (has_use c k.name) c.policies) line line none refl)))

not_so : {P : Type 0} (b : Bool) → (P → b ≡ true) → b ≡ false → ¬ P
not_so b h e p = let two : true ≡ false = sym (h p) ∙ e in cc

rules_are : (c : Config) (number : RuleNo) → HasRuleLine (idle c) number ↔ IsIdleRule c number
rules_are c number = (
  λ line.
      let found = found_rule c number line.before line.stands in
      let same = same_rules found.rule.number number (flat_map (before_of c found.rule) (all_rules c)) line.before found.is in
      let none = not_so (decides_some c found.rule.number) (decides_iff c found.rule.number).1 found.decides_none in
      record {
        rule = found.rule;
        configured = found.configured;
        is = same.0;
        decides_none = subst (λ (n : RuleNo). ¬ DecidesSome c n) same.0 none;
      },
  λ k.
      let none = subst (λ (n : RuleNo). ¬ DecidesSome c n) (sym k.is) k.decides_none in
      let decides = false_from_ne_true (decides_some c k.rule.number) (λ h. none ((decides_iff c k.rule.number).0 h)) in
      record {
        before = flat_map (before_of c k.rule) (all_rules c);
        stands = subst (λ (n : RuleNo). Contains (idle c) (Is.Rule n (flat_map (before_of c k.rule) (all_rules c)))) k.is (rule_found c k.rule k.configured decides);
      },
)

before_are : (c : Config) → Apart c → (number : RuleNo) (before : List RuleNo) → Contains (idle c) (Is.Rule number before) → AreBefore c number before
before_are c apart number before at =
    let found = found_rule c number before at in
    let same = same_rules found.rule.number number (flat_map (before_of c found.rule) (all_rules c)) before found.is in
    record {
      rule = found.rule;
      configured = found.configured;
      is = same.0;
      exact = λ m. subst (λ (list : List RuleNo). Contains list m ↔ StandsBefore c found.rule m) same.1 (before_is c apart found.rule found.configured m);
    }

policies_are : (c : Config) (name : List ℕ) (networks : ℕ) → Contains (idle c) (Is.Policy name networks) ↔ IsIdlePolicy c name networks
policies_are c name networks = (
  λ at.
      let found = found_policy c name networks at in
      let same = same_policies found.policy.name name (attached_count found.policy c.networks) networks found.is in
      record {
        policy = found.policy;
        configured = found.configured;
        is = same.0;
        count = same.1;
        few = subst (λ (n : ℕ). n < 2) same.1 (ltb-true (attached_count found.policy c.networks) 2 found.few);
      },
  λ k.
      let few : ltb (attached_count k.policy c.networks) 2 ≡ true = lt-ltb (attached_count k.policy c.networks) 2 (subst (λ (n : ℕ). n < 2) (sym k.count) k.few) in
      subst (λ (n : ℕ). Contains (idle c) (Is.Policy name n)) k.count
      (subst (λ (a : List ℕ). Contains (idle c) (Is.Policy a (attached_count k.policy c.networks))) k.is (policy_found c k.policy k.configured few)),
)

chains_are : (c : Config) (name : List ℕ) → Contains (idle c) (Is.Chain name) ↔ IsIdleChain c name
chains_are c name = (
  λ at.
      let found = found_chain c name at in
      let same = same_chains found.chain.name name found.is in
      let none = not_so (list_any (has_use c found.chain.name) c.policies) (use_in c found.chain.name) found.without_use in
      record {
        chain = found.chain;
        configured = found.configured;
        is = same;
        without_use = subst (λ (a : List ℕ). ¬ IsInUse c a) same none;
      },
  λ k.
      let none = subst (λ (a : List ℕ). ¬ IsInUse c a) (sym k.is) k.without_use in
      let used = false_from_ne_true (list_any (has_use c k.chain.name) c.policies) (λ h. none (in_use c k.chain.name h)) in
      subst (λ (a : List ℕ). Contains (idle c) (Is.Chain a)) k.is (chain_found c k.chain k.configured used),
)

pub all_idle : (t : Topology) (c : Config) → first_broken t c ≡ None → IsAllIdle c (idle c)
all_idle t c h = record {
  rules = rules_are c;
  before = before_are c (valid t c h).numbers.sequences;
  policies = policies_are c;
  chains = chains_are c;
}
