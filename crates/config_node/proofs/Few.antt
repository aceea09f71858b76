-- How few imports, subnets and entries the objects of a valid configuration have.
use Rattle.std.proofs.Common.{◌≡◌, ◌≢◌, ◌&&◌, ◌||◌, ◌+◌, ◌≤◌, ◌<◌, ℕ, suc, Bool, true, false, cond, ltb, IsTrue, List, [], ◌∷◌, length, filter, flat_map, map, refl, sym, ap, ◌∙◌, subst, arith}
use Rattle.std.proofs.Common.{length-append}
use Rattle.std.specs.Cmp.{nat_eq_equiv, unsigned_Decides}
use Rattle.std.specs.Cmp.Lexicographic.{nat_list_eq_equiv, same_text}
use Rattle.std.specs.List.{AllPairs, Contains}
use Rattle.std.proofs.lemmas.Bool.{and_parts}
use Rattle.std.proofs.lemmas.List.{length-map}
use Rattle.std.proofs.lemmas.List.Elements.{All-contains}
use Rattle.std.proofs.lemmas.List.Kept.{AllPairs-filter}
use Rattle.std.proofs.lemmas.List.Sorted.{length_permutation}
use Rattle.std.proofs.lemmas.Map.Views.{Contains-from_any}
use Rattle.ov_types.specs.First.{same_name}
use Rattle.ov_types.specs.declared.numbers.InstanceId.{InstanceId}
use Rattle.ov_types.proofs.FirstLemmas.{same_name_iff}
use Rattle.config_types.specs.Form.{has_config_form}
use Rattle.config_types.specs.declared.config.Config.{Config}
use Rattle.config_types.specs.declared.config.Network.{Network}
use Rattle.config_types.specs.declared.config.Policy.{Policy}
use Rattle.config_types.specs.declared.config.Rule.{Rule}
use Rattle.config_types.specs.declared.topology.Topology.{Topology}
use Rattle.machine_model.specs.ConfigCheck.Sentences.{IsValid}
use Rattle.policy_rules.specs.Matching.{speaks_both_ways}
use Rattle.policy_rules.specs.Related.{attaches, by_sequence, fits, numbered_from, numbered_rules, put_by_sequence, rules_between}
use Rattle.policy_rules.specs.declared.numbered.NumberedRule.{NumberedRule}
use Rattle.machine_model.specs.AclCompile.Bounds.{IsBounded, KeepsBounds}
use Rattle.machine_model.specs.AclCompile.Oriented.{acl_rules, ascending, backwards, entries_of, forward_entry, forwards, mirrored_entry, oriented}
use Rattle.machine_model.proofs.AclCompile.Kept.{all_bounded}
use Rattle.machine_model.proofs.AclCompile.Orders.{ascending_permutes}
use Rattle.machine_model.specs.TransformModel.IsObject.{AreImports}
use Rattle.policy_rules.proofs.Lists.{is_mapped, kept_is, mapped_is}
use Rattle.machine_model.proofs.TransformModel.Lists.{pairs_mapped, pairs_of_map, pairs_weaker}
use Rattle.config_node.proofs.Lists.{length_kept, length_sixteen, length_twice, no_more}

-- ---- entries
length_put : (p : Policy) (qs : List Policy) → length (put_by_sequence p qs) ≡ suc (length qs)
length_put p [] = refl
length_put p (q ∷ qs) =
    elim (ltb q.sequence p.sequence) as (λ b. length (cond b (q ∷ put_by_sequence p qs) (p ∷ q ∷ qs)) ≡ suc (suc (length qs))) [
      | true ↦ ap suc (length_put p qs)
      | false ↦ refl
    ]

length_ordered : (ps : List Policy) → length (by_sequence ps) ≡ length ps
length_ordered [] = refl
length_ordered (p ∷ ps) = omega (arith, length_put p (by_sequence ps), length_ordered ps)

length_numbered : (sequence first : ℕ) (rs : List Rule) → length (numbered_from sequence first rs) ≡ length rs
length_numbered sequence first [] = refl
length_numbered sequence first (r ∷ rs) = omega (arith, length_numbered sequence (first + 1) rs)

at_most_one : {A : Type 0} (b : Bool) (x : A) → length (cond b (x ∷ []) []) ≤ 1
at_most_one true x = omega arith
at_most_one false x = omega arith

two_entries : (c : Config) (a b : Network) (r : NumberedRule) → length (entries_of c a b r) ≤ 2
two_entries c a b r =
    omega (
      arith,
      length-append (forwards c a b r) (backwards c a b r),
      at_most_one (fits r.rule a b) (forward_entry c r),
      at_most_one (speaks_both_ways r.rule.direction && fits r.rule b a) (mirrored_entry c r),
    )

module _ (t : Topology) (c : Config) (form : IsTrue (has_config_form c)) (v : IsValid t c) where
  abbrev name_of : Policy → List ℕ
  name_of p = p.name

  abbrev shared : Network → Network → List Policy
  shared a b = filter (λ p. attaches a p && attaches b p) c.policies

  few_shared : (a b : Network) → Contains c.networks a → length (shared a b) ≤ 4
  few_shared a b in_a =
      let both : Policy → Bool = λ p. attaches a p && attaches b p in
      let apart : AllPairs (λ p q. p.name ≢ q.name) (shared a b) =
      AllPairs-filter (λ p q. p.name ≢ q.name) both c.policies (pairs_of_map name_of (λ (m n : List ℕ). m ≢ n) c.policies v.names.policies) in
      let names : length (map name_of (shared a b)) ≤ length a.policies =
      no_more nat_list_eq_equiv same_name_iff (map name_of (shared a b)) a.policies (pairs_mapped name_of (λ (m n : List ℕ). m ≢ n) (shared a b) apart)
      (λ q at.
      let p = mapped_is name_of (shared a b) q at in
      let kept = kept_is both c.policies p.0 p.1 in
      let attached = (and_parts (attaches a p.0) (attaches b p.0) kept.1).0 in
      subst (Contains a.policies) p.2 (Contains-from_any (λ x y h. same_text x y (sym h)) p.0.name a.policies attached)) in
      let most = All-contains (λ (n : Network). length n.policies ≤ 4) c.networks a v.limits.attachments in_a in
      omega (arith, names, most, length-map (shared a b) name_of)

  few_rules : (a b : Network) → Contains c.networks a → length (rules_between c a b) ≤ 64
  few_rules a b in_a =
      let ordered : List Policy = by_sequence (shared a b) in
      let bounds : KeepsBounds c = record { form = form; rules = v.limits.rules; chains = v.limits.chains; short = v.short; once = v.once } in
      let bounded = all_bounded c (λ p. attaches a p && attaches b p) ordered bounds refl in
      let each : (p : Policy) → Contains ordered p → length (numbered_rules p) ≤ 16 =
      λ p at.
      let most = (All-contains IsBounded ordered p bounded at).rules in
      omega (arith, most, length_numbered p.sequence 1 p.rules) in
      let all = length_sixteen numbered_rules ordered each in
      omega (
        arith,
        length_kept (λ r. fits r.rule a b || fits r.rule b a) (flat_map numbered_rules ordered),
        all,
        length_ordered (shared a b),
        few_shared a b in_a,
      )

  pub few_entries : (a b : Network) → Contains c.networks a → length (acl_rules c a b) ≤ 128
  few_entries a b in_a =
      elim (same_name a.name b.name) as (λ s. length (cond s [] (oriented c a b)) ≤ 128) [
        | true ↦ omega arith
        | false ↦ omega (arith, length_twice (entries_of c a b) (two_entries c a b) (rules_between c a b), few_rules a b in_a)
      ]

  -- ---- subnets
  pub few_subnets : (n : Network) → Contains c.networks n → length (ascending n.subnets) ≤ 4
  few_subnets n at =
      let most = All-contains (λ (n : Network). length n.subnets ≤ 4) c.networks n v.limits.subnets at in
      omega (arith, most, length_permutation n.subnets (ascending n.subnets) (ascending_permutes n.subnets))

  -- ---- imports
  abbrev number_of : InstanceId → ℕ
  number_of i = i.0

  abbrev number_of_network : Network → ℕ
  number_of_network n = n.id.0

  pub few_imports : (n : Network) (is : List InstanceId) → AreImports c n is → length is ≤ 128
  few_imports n is are =
      let apart : AllPairs (λ (i j : InstanceId). i.0 ≢ j.0) is =
      pairs_weaker (λ (i j : InstanceId). i.0 < j.0) (λ (i j : InstanceId). i.0 ≢ j.0) is are.ascend (λ i j in_i in_j lt same. omega arith) in
      let numbers : length (map number_of is) ≤ length (map number_of_network c.networks) =
      no_more nat_eq_equiv unsigned_Decides (map number_of is) (map number_of_network c.networks) (pairs_mapped number_of (λ (i j : ℕ). i ≢ j) is apart)
      (λ q at.
      let i = mapped_is number_of is q at in
      let b = are.of_networks i.0 i.1 in
      subst (Contains (map number_of_network c.networks)) (ap number_of b.2 ∙ i.2) (is_mapped number_of_network c.networks b.0 b.1)) in
      omega (arith, numbers, v.limits.networks, length-map is number_of, length-map c.networks number_of_network)
