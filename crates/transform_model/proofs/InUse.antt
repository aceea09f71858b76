-- The uses of a configuration are those in effect, each of its own number.
use Rattle.std.proofs.Common.{◌≡◌, ◌≢◌, ◌↔◌, inl, inr, ◌&&◌, ◌+◌, ◌≤◌, ℕ, zero, suc, IsTrue, List, [], ◌∷◌, length, map, Option, Some, None, get_or, refl, sym, ap, ◌∙◌, subst, arith}
use Rattle.std.specs.List.{AllPairs, Contains, flat_map}
use Rattle.std.specs.Option.{option_map_or}
use Rattle.std.proofs.lemmas.Bool.{and_parts, and_from}
use Rattle.std.proofs.lemmas.List.Elements.{All-contains}
use Rattle.ov_types.specs.First.{same_name}
use Rattle.ov_types.proofs.FirstLemmas.{same_name_iff, found_is}
use Rattle.acl_compile.specs.ConfigTypes.Action.{Action}
use Rattle.acl_compile.specs.ConfigTypes.Action.TheVariants.{Pass, Deny, Through}
use Rattle.acl_compile.specs.ConfigTypes.Chain.{Chain}
use Rattle.acl_compile.specs.ConfigTypes.Config.{Config}
use Rattle.acl_compile.specs.ConfigTypes.End.{End}
use Rattle.acl_compile.specs.ConfigTypes.End.TheVariants.{Any, Named}
use Rattle.acl_compile.specs.ConfigTypes.Network.{Network}
use Rattle.acl_compile.specs.ConfigTypes.Policy.{Policy}
use Rattle.acl_compile.specs.ConfigTypes.Rule.{Rule}
use Rattle.acl_compile.specs.ConfigTypes.Service.{Service}
use Rattle.acl_compile.specs.ConfigTypes.Topology.{Topology}
use Rattle.acl_compile.specs.ChainExpand.Expansion.{expansion, services_within, service_named, hops_of}
use Rattle.acl_compile.specs.PolicyRules.NumberedRule.{NumberedRule}
use Rattle.acl_compile.specs.PolicyRules.Related.{all_rules, attaches, numbered_from, numbered_rules}
use Rattle.acl_compile.specs.PolicyRules.Standing.{IsEnd, AreRelated, LetsThrough}
use Rattle.acl_compile.proofs.PolicyRules.Relations.{related_iff}
use Rattle.acl_compile.specs.ConfigCheck.Finding.{network_named}
use Rattle.acl_compile.specs.ConfigCheck.Rules.{use_of, chain_names, network_names}
use Rattle.acl_compile.specs.ConfigCheck.Sentences.{IsValid, IsAround, NamesTwo, EndExists, ChainExists}
use Rattle.acl_compile.proofs.ConfigCheck.Finders.{finds_network_named}
use Rattle.acl_compile.proofs.ConfigCheck.OneHome.{two_among}
use Rattle.acl_compile.proofs.PolicyRules.Standing.{attaches_iff}
use Rattle.transform_model.specs.IsUse.{IsUse}
use Rattle.transform_model.specs.Uses.{ConfiguredUse, network_at, use_between, use_by, uses_of, uses}
use Rattle.acl_compile.proofs.PolicyRules.Lists.{is_joined, joined_is, mapped_is}
use Rattle.transform_model.proofs.Lists.{given, gives, some_if, is_some, at_place, pairs_joined_by, pairs_given_by, pairs_in_part, pairs_of_parts, pairs_mapped, pairs_ungiven, Across}

-- the network of a name
pub named : (c : Config) (name : List ℕ) (a : Network) → network_named c name ≡ Some a → (a.name ≡ name) × Contains c.networks a
named c name a h =
    let f = found_is (λ (x : Network). same_name x.name name) c.networks a h in
    ((same_name_iff a.name name).0 f.0, f.1)

-- ---- what is a use is in effect

record GivesUse (c : Config) (p : Policy) (chain : List ℕ) (number : ℕ) (o q : Option Network) (u : ConfiguredUse) : Type 0 where
  left : Network
  right : Network
  left_is : o ≡ Some left
  right_is : q ≡ Some right
  left_attaches : Contains left.policies p.name
  right_attaches : Contains right.policies p.name
  use_is : record { number = number; left = left; right = right; services = expansion c chain } ≡ u

between_is : (c : Config) (p : Policy) (chain : List ℕ) (number : ℕ) (o q : Option Network) (u : ConfiguredUse)
    → use_between c p chain number o q ≡ Some u → GivesUse c p chain number o q u
between_is c p chain number None q u h = cc
between_is c p chain number (Some left) None u h = cc
between_is c p chain number (Some left) (Some right) u h =
    let used : ConfiguredUse = record { number = number; left = left; right = right; services = expansion c chain } in
    let k = some_if (attaches left p && attaches right p) used u h in
    let both = and_parts (attaches left p) (attaches right p) k.0 in
    record {
      left = left;
      right = right;
      left_is = refl;
      right_is = refl;
      left_attaches = (attaches_iff left p).0 both.0;
      right_attaches = (attaches_iff right p).0 both.1;
      use_is = k.1;
    }

named_end : (c : Config) (e : End) (n : Network) → network_at c e ≡ Some n → (e ≡ Named n.name) × Contains c.networks n
named_end c Any n h = cc
named_end c (Named name) n h = let f = named c name n h in (ap Named (sym f.0), f.1)

by_action : (c : Config) (p : Policy) (r : Rule) (a : Action) (u : ConfiguredUse) → r.action ≡ a → use_by c p r a ≡ Some u
    → Contains c.policies p → Contains p.rules r → IsUse c u
by_action c p r Pass u e h in_p in_r = cc
by_action c p r Deny u e h in_p in_r = cc
by_action c p r (Through chain number) u e h in_p in_r =
    let b = between_is c p chain number (network_at c r.source) (network_at c r.destination) u h in
    let left = named_end c r.source b.left b.left_is in
    let right = named_end c r.destination b.right b.right_is in
    subst (IsUse c) b.use_is (record {
      policy = p;
      rule = r;
      chain = chain;
      has_policy = in_p;
      has_rule = in_r;
      leads = e;
      from = left.0;
      to = right.0;
      has_left = left.1;
      has_right = right.1;
      left_attaches = b.left_attaches;
      right_attaches = b.right_attaches;
      services = refl;
    })

pub use_is : (c : Config) (u : ConfiguredUse) → Contains (uses c) u → IsUse c u
use_is c u h =
    let p = joined_is (uses_of c) c.policies u h in
    let r = given (λ (r : Rule). use_by c p.0 r r.action) p.0.rules u p.2 in
    by_action c p.0 r.0 r.0.action u refl r.2 p.1 r.1

-- ---- and what is in effect is a use

named_is : (t : Topology) (c : Config) (n : Network) → IsValid t c → Contains c.networks n → network_named c n.name ≡ Some n
named_is t c n v within = ((finds_network_named t c n.name v).some n).1 (within, refl)

gives_use : (t : Topology) (c : Config) (u : ConfiguredUse) → IsValid t c → (h : IsUse c u) → use_by c h.policy h.rule h.rule.action ≡ Some u
gives_use t c u v h =
    let p : Policy = h.policy in
    let left : network_at c h.rule.source ≡ Some u.left = ap (network_at c) h.from ∙ named_is t c u.left v h.has_left in
    let right : network_at c h.rule.destination ≡ Some u.right = ap (network_at c) h.to ∙ named_is t c u.right v h.has_right in
    let one : IsTrue (attaches u.left p) = (attaches_iff u.left p).1 h.left_attaches in
    let two : IsTrue (attaches u.right p) = (attaches_iff u.right p).1 h.right_attaches in
    let used : ConfiguredUse = record { number = u.number; left = u.left; right = u.right; services = expansion c h.chain } in
    let same : used ≡ u = λ i. record { number = u.number; left = u.left; right = u.right; services = sym h.services i } in
    ap (use_by c p h.rule) h.leads
    ∙ ap (λ (o : Option Network). use_between c p h.chain u.number o (network_at c h.rule.destination)) left
    ∙ ap (λ (o : Option Network). use_between c p h.chain u.number (Some u.left) o) right
    ∙ is_some (attaches u.left p && attaches u.right p) used (and_from (attaches u.left p) (attaches u.right p) one two)
    ∙ ap (λ (w : ConfiguredUse). Some w) same

pub is_use : (t : Topology) (c : Config) (u : ConfiguredUse) → IsValid t c → IsUse c u → Contains (uses c) u
is_use t c u v h =
    is_joined (uses_of c) c.policies h.policy u h.has_policy
    (gives (λ (r : Rule). use_by c h.policy r r.action) h.policy.rules h.rule u h.has_rule (gives_use t c u v h))

pub uses_iff : (t : Topology) (c : Config) (u : ConfiguredUse) → IsValid t c → Contains (uses c) u ↔ IsUse c u
uses_iff t c u v = (use_is c u, is_use t c u v)

-- ---- the rules of a policy, numbered

rules_are : (sequence first : ℕ) (rules : List Rule) → map (λ (r : NumberedRule). r.rule) (numbered_from sequence first rules) ≡ rules
rules_are sequence first [] = refl
rules_are sequence first (r ∷ rs) = ap (λ (rules : List Rule). r ∷ rules) (rules_are sequence (first + 1) rs)

pub numbered : (p : Policy) (r : Rule) → Contains p.rules r → (x : NumberedRule) × Contains (numbered_rules p) x × (x.rule ≡ r)
numbered p r h =
    mapped_is (λ (x : NumberedRule). x.rule) (numbered_rules p) r
    (subst (λ (rules : List Rule). Contains rules r) (sym (rules_are p.sequence 1 p.rules)) h)

pub among_all : (c : Config) (p : Policy) (x : NumberedRule) → Contains c.policies p → Contains (numbered_rules p) x → Contains (all_rules c) x
among_all c p x in_p in_x = is_joined numbered_rules c.policies p x in_p in_x

-- ---- numbers of uses

abbrev pub Differ : ConfiguredUse → ConfiguredUse → Type 0
Differ u v = u.number ≢ v.number

number_of : (c : Config) (p : Policy) (r : Rule) (a : Action) (u : ConfiguredUse) → use_by c p r a ≡ Some u → use_of a ≡ Some u.number
number_of c p r Pass u h = cc
number_of c p r Deny u h = cc
number_of c p r (Through chain number) u h =
    let b = between_is c p chain number (network_at c r.source) (network_at c r.destination) u h in
    ap (λ (w : ConfiguredUse). Some w.number) b.use_is

abbrev LeadsApart : Rule → Rule → Type 0
LeadsApart q r = (m n : ℕ) → use_of q.action ≡ Some m → use_of r.action ≡ Some n → m ≢ n

abbrev Apart : NumberedRule → NumberedRule → Type 0
Apart q r = LeadsApart q.rule r.rule

rules_apart : (t : Topology) (c : Config) → IsValid t c → AllPairs Apart (all_rules c)
rules_apart t c v = pairs_ungiven (λ (r : NumberedRule). use_of r.rule.action) (λ (m n : ℕ). m ≢ n) (all_rules c) v.numbers.uses

policy_apart : (t : Topology) (c : Config) (p : Policy) → IsValid t c → Contains c.policies p → AllPairs LeadsApart p.rules
policy_apart t c p v in_p =
    subst (AllPairs LeadsApart) (rules_are p.sequence 1 p.rules)
    (pairs_mapped (λ (r : NumberedRule). r.rule) LeadsApart (numbered_rules p)
    (pairs_in_part numbered_rules Apart c.policies p (rules_apart t c v) in_p))

pub uses_differ : (t : Topology) (c : Config) → IsValid t c → AllPairs Differ (uses c)
uses_differ t c v =
    pairs_joined_by (uses_of c) Differ (Across numbered_rules Apart) c.policies
    (pairs_of_parts numbered_rules Apart c.policies (rules_apart t c v))
    (λ p in_p.
    pairs_given_by (λ (r : Rule). use_by c p r r.action) Differ LeadsApart p.rules (policy_apart t c p v in_p)
    (λ q r u w in_q in_r apart is_u is_w. apart u.number w.number (number_of c p q q.action u is_u) (number_of c p r r.action w is_w)))
    (λ p q u w in_p in_q apart in_u in_w.
    let a = given (λ (r : Rule). use_by c p r r.action) p.rules u in_u in
    let b = given (λ (r : Rule). use_by c q r r.action) q.rules w in_w in
    let x = numbered p a.0 a.1 in
    let y = numbered q b.0 b.1 in
    apart x.0 y.0 x.1 y.1 u.number w.number
    (ap (λ (r : Rule). use_of r.action) x.2 ∙ number_of c p a.0 a.0.action u a.2)
    (ap (λ (r : Rule). use_of r.action) y.2 ∙ number_of c q b.0 b.0.action w b.2))

-- a number has one use
pub one_use : (t : Topology) (c : Config) (u w : ConfiguredUse) → IsValid t c → IsUse c u → IsUse c w → u.number ≡ w.number → u ≡ w
one_use t c u w v p q same =
    elim (two_among Differ (uses c) u w (uses_differ t c v) (is_use t c u v p) (is_use t c w v q)) [
      | inl one ↦ one
      | inr other ↦ elim other [ inl differ ↦ absurd (differ same) | inr differ ↦ absurd (differ (sym same)) ]
    ]

-- ---- a use's services and networks

record RuleOf (c : Config) (u : ConfiguredUse) (h : IsUse c u) : Type 0 where
  pub rule : NumberedRule
  pub there : Contains (all_rules c) rule
  pub is : rule.rule ≡ h.rule

rule_of : (c : Config) (u : ConfiguredUse) (h : IsUse c u) → RuleOf c u h
rule_of c u h = let x = numbered h.policy h.rule h.has_rule in record { rule = x.0; there = among_all c h.policy x.0 h.has_policy x.1; is = x.2 }

pub few_services : (t : Topology) (c : Config) (u : ConfiguredUse) → IsValid t c → IsUse c u → length u.services ≤ 15
few_services t c u v h =
    let x = rule_of c u h in
    let referents = All-contains (λ (r : NumberedRule). EndExists (network_names c) r.rule.source × EndExists (network_names c) r.rule.destination
    × ChainExists (chain_names c) r.rule.action) (all_rules c) x.rule v.references.rules x.there in
    let leads : x.rule.rule.action ≡ Through h.chain u.number = ap (λ (r : Rule). r.action) x.is ∙ h.leads in
    let chain : Contains (chain_names c) h.chain = subst (ChainExists (chain_names c)) leads referents.2 in
    let d = mapped_is (λ (d : Chain). d.name) c.chains h.chain chain in
    let short : length (expansion c d.0.name) ≤ 15 = All-contains (λ (d : Chain). length (expansion c d.name) ≤ 15) c.chains d.0 v.short d.1 in
    let same : length u.services ≡ length (expansion c d.0.name) = ap length h.services ∙ ap (λ (name : List ℕ). length (expansion c name)) (sym d.2) in
    omega arith

service_of : (c : Config) (o : Option Service) (hop : List ℕ) (others : List Service) (s : Service) → service_named c hop ≡ o
    → (Contains others s → Contains c.services s) → Contains (option_map_or (λ s. s ∷ []) o others) s → Contains c.services s
service_of c None hop others s e rest h = rest h
service_of c (Some x) hop others s e rest h =
    let f = found_is (λ (x : Service). same_name x.name hop) c.services x e in
    let place : h.0 ≡ 0 = omega (arith, h.1) in
    let same : x ≡ s = sym (ap (λ (k : ℕ). get_or (x ∷ []) k s) place) ∙ h.2 in
    subst (Contains c.services) same f.1

nothing : (c : Config) (s : Service) → Contains {X = Service} [] s → Contains c.services s
nothing c s h = absurd (omega (arith, h.1))

within : (n : ℕ) (c : Config) (hop : List ℕ) (s : Service) → Contains (services_within n c hop) s → Contains c.services s
unfolding services_within
within zero c hop s h = service_of c (service_named c hop) hop [] s refl (nothing c s) h
within (suc n) c hop s h =
    service_of c (service_named c hop) hop (flat_map (services_within n c) (hops_of c hop)) s refl
    (λ later. let q = joined_is (services_within n c) (hops_of c hop) s later in within n c q.0 s q.2) h

-- the services of a chain are services of the configuration
pub of_services : (c : Config) (chain : List ℕ) (s : Service) → Contains (expansion c chain) s → Contains c.services s
of_services c chain s inside =
    let q = joined_is (services_within (length c.chains) c) (hops_of c chain) s inside in
    within (length c.chains) c q.0 s q.2

-- and so are those of a use
pub services_are : (c : Config) (u : ConfiguredUse) (s : Service) → IsUse c u → Contains u.services s → Contains c.services s
services_are c u s h inside = of_services c h.chain s (subst (λ (ss : List Service). Contains ss s) h.services inside)

-- its two networks differ, and are related
pub ends_differ : (t : Topology) (c : Config) (u : ConfiguredUse) → IsValid t c → IsUse c u → u.left.name ≢ u.right.name
ends_differ t c u v h same =
    let x = rule_of c u h in
    let two : NamesTwo x.rule.rule = All-contains (λ (r : NumberedRule). NamesTwo r.rule) (all_rules c) x.rule v.two x.there in
    two h.chain u.left.name u.number (ap (λ (r : Rule). r.action) x.is ∙ h.leads) (ap (λ (r : Rule). r.source) x.is ∙ h.from)
    (ap (λ (r : Rule). r.destination) x.is ∙ h.to ∙ ap Named (sym same))

pub ends_related : (t : Topology) (c : Config) (u : ConfiguredUse) → IsValid t c → IsUse c u → AreRelated c u.left u.right
ends_related t c u v h =
    let at = at_place h.policy.rules h.rule h.has_rule in
    record {
      differ = ends_differ t c u v h;
      rule = record { number = record { sequence = h.policy.sequence; position = at.0 + 1 }; rule = h.rule };
      stands = record {
        policy = h.policy;
        place = at.0;
        configured = h.has_policy;
        first_attaches = h.left_attaches;
        second_attaches = h.right_attaches;
        stands = at.1;
        sequence = refl;
        position = refl;
        fits = inl (
          subst (λ (e : End). IsEnd e u.left) (sym h.from) refl,
          subst (λ (e : End). IsEnd e u.right) (sym h.to) refl,
        );
      };
      lets = subst LetsThrough (sym h.leads) tt;
    }

pub around_right : (t : Topology) (c : Config) (u : ConfiguredUse) → IsValid t c → IsUse c u → IsAround c u.left u.right
around_right t c u v h = inr ((related_iff c u.left u.right).1 (ends_related t c u v h))
