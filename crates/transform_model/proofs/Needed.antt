-- In a valid configuration an agent needs the instances of its ports and circuits, and those by which packets of its
-- ports enter chains; each is a network's or a hop's of a use in effect.
use Rattle.std.proofs.Common.{◌≡◌, ◌≢◌, ◌↔◌, inl, inr, ◌==◌, ◌&&◌, ◌+◌, ℕ, Bool, true, false, cond, IsTrue, List, [], ◌∷◌, length, Option, Some, None, refl, sym, ap, ◌∙◌, subst, arith}
use Rattle.std.specs.List.{Any, Contains, filter_map, list_any}
use Rattle.std.proofs.lemmas.Bool.{and_parts, and_from, eqb-true, eq-eqb}
use Rattle.std.proofs.lemmas.List.Elements.{All-contains, Contains-append_left, Contains-append_right, Contains-append_cases}
use Rattle.std.proofs.lemmas.List.Folds.{Any-from_list_any, list_any-from_Any}
use Rattle.ov_types.specs.First.{same_name}
use Rattle.ov_types.specs.declared.numbers.InstanceId.{InstanceId}
use Rattle.ov_types.specs.declared.objects.AclAction.{AclAction}
use Rattle.ov_types.specs.declared.objects.AclAction.TheVariants as Does
use Rattle.ov_types.specs.declared.objects.AclRule.{AclRule}
use Rattle.ov_types.specs.declared.prefix.Addr.{Addr}
use Rattle.ov_types.proofs.FirstLemmas.{any_of, contains_at, contains_cases, contains_here, same_name_iff}
use Rattle.node_model.specs.RouteTargets.Numbers.{circuit_instance_of, hop_instance_of}
use Rattle.acl_compile.specs.ConfigTypes.Form.{has_config_form}
use Rattle.acl_compile.specs.ConfigTypes.Action.{Action}
use Rattle.acl_compile.specs.ConfigTypes.Action.TheVariants.{Pass, Deny, Through}
use Rattle.acl_compile.specs.ConfigTypes.Config.{Config}
use Rattle.acl_compile.specs.ConfigTypes.Direction.{Direction}
use Rattle.acl_compile.specs.ConfigTypes.Direction.TheVariants.{OneWay, BothWays}
use Rattle.acl_compile.specs.ConfigTypes.End.{End}
use Rattle.acl_compile.specs.ConfigTypes.End.TheVariants.{Any as AnyNetwork, Named}
use Rattle.acl_compile.specs.ConfigTypes.Network.{Network}
use Rattle.acl_compile.specs.ConfigTypes.Rule.{Rule}
use Rattle.acl_compile.specs.ConfigTypes.Service.{Service}
use Rattle.acl_compile.specs.ConfigTypes.Node.{Node}
use Rattle.acl_compile.specs.ConfigTypes.Topology.{Topology}
use Rattle.acl_compile.specs.ChainExpand.Expansion.{expansion}
use Rattle.acl_compile.specs.PolicyRules.NumberedRule.{NumberedRule}
use Rattle.acl_compile.specs.PolicyRules.Matching.{speaks_both_ways}
use Rattle.acl_compile.specs.PolicyRules.Related.{all_rules, fits, rules_between}
use Rattle.acl_compile.specs.PolicyRules.Standing.{AreRelated, IsBetween, IsEnd, Fits}
use Rattle.acl_compile.proofs.PolicyRules.Standing.{between_iff, fits_iff}
use Rattle.acl_compile.specs.ConfigCheck.Sentences.{IsValid, NamesEnds}
use Rattle.acl_compile.specs.Oriented.{does, forward_entry, mirrored_entry, forwards, backwards, entries_of, oriented, acl_rules}
use Rattle.node_model.specs.Agent.{entered_by, needed_for, needed_by}
use Rattle.node_model.specs.Wants.{port_at}
use Rattle.transform_model.specs.Compiled.{concerns, networks_at, slice_of}
use Rattle.transform_model.specs.IsNeeded.{HasPortAt, IsNeeded, by_port, by_circuit, by_first_hop, by_last_hop}
use Rattle.transform_model.specs.IsObject.{IsObject, of_network, of_port, of_left_circuit, of_right_circuit, of_networks, of_use}
use Rattle.transform_model.specs.IsRow.{IsPort}
use Rattle.transform_model.specs.IsUse.{IsUse, IsInstance}
use Rattle.transform_model.specs.IsUse as instance
use Rattle.transform_model.specs.Objects.{LowObject, acl_object, attached_circuit, attached_port, low_objects}
use Rattle.transform_model.specs.Uses.{ConfiguredUse}
use Rattle.transform_model.proofs.Circuits.{left_instance, right_instance}
use Rattle.transform_model.proofs.InUse.{numbered, among_all, ends_related}
use Rattle.acl_compile.proofs.PolicyRules.Lists.{is_joined, joined_is, is_kept, kept_is}
use Rattle.transform_model.proofs.Lists.{given, gives, is_some, is_there, some_if, at_place, place_within}
use Rattle.transform_model.proofs.LowKeys.{low_is, is_low}
use Rattle.transform_model.proofs.Objects.{one_numbered}

-- ---- what an access list enters

entered_is : (a : AclAction) (i : InstanceId) → entered_by a ≡ Some i → a ≡ Does.Enter i
entered_is (Does.Enter j) i e = cc
entered_is Does.Pass i e = cc
entered_is Does.Deny i e = cc

-- the hop that packets enter a chain by, as a rule is written or mirrored
abbrev entry_hop : Config → Bool → List ℕ → ℕ
entry_hop c false chain = 0
entry_hop c true chain = length (expansion c chain)

-- a rule leads into a chain
record Leads (c : Config) (mirrored : Bool) (a : Action) (i : InstanceId) : Type 0 where
  chain : List ℕ
  number : ℕ
  leads : a ≡ Through chain number
  at : i ≡ hop_instance_of number (entry_hop c mirrored chain)

leads_is : (c : Config) (mirrored : Bool) (a : Action) (i : InstanceId) → entered_by (does c mirrored a) ≡ Some i → Leads c mirrored a i
leads_is c true Pass i e = cc
leads_is c false Pass i e = cc
leads_is c true Deny i e = cc
leads_is c false Deny i e = cc
leads_is c false (Through chain number) i e =
    let same : hop_instance_of number 0 ≡ i = cc in
    record { chain = chain; number = number; leads = refl; at = sym same }
leads_is c true (Through chain number) i e =
    let same : hop_instance_of number (length (expansion c chain)) ≡ i = cc in
    record { chain = chain; number = number; leads = refl; at = sym same }

named_end : (e : End) (n : Network) → e ≢ AnyNetwork → IsEnd e n → e ≡ Named n.name
named_end AnyNetwork n never h = absurd (never refl)
named_end (Named name) n never h = ap Named h

-- the use of a chain by a rule between two networks
abbrev use_by_rule : Config → Network → Network → List ℕ → ℕ → ConfiguredUse
use_by_rule c a b chain number = record { number = number; left = a; right = b; services = expansion c chain }

record UsedBy (c : Config) (a b : Network) (r : NumberedRule) (chain : List ℕ) (number : ℕ) : Type 0 where
  used : IsUse c (use_by_rule c a b chain number)
  rule : used.rule ≡ r.rule

-- it is in effect
in_effect : (t : Topology) (c : Config) (a b : Network) (r : NumberedRule) (chain : List ℕ) (number : ℕ) → IsValid t c
    → Contains c.networks a → Contains c.networks b → IsBetween c a b r → Fits r.rule a b → r.rule.action ≡ Through chain number
    → UsedBy c a b r chain number
in_effect t c a b r chain number v in_a in_b stands fit leads =
    let there = contains_at stands.policy.rules stands.place r.rule stands.stands in
    let x = numbered stands.policy r.rule there in
    let ends : NamesEnds x.0.rule = All-contains (λ (y : NumberedRule). NamesEnds y.rule) (all_rules c) x.0 v.ends (among_all c stands.policy x.0 stands.configured x.1) in
    let both : NamesEnds r.rule = subst NamesEnds x.2 ends in
    let named = both chain number leads in
    record {
      used = record {
        policy = stands.policy;
        rule = r.rule;
        chain = chain;
        has_policy = stands.configured;
        has_rule = there;
        leads = leads;
        from = named_end r.rule.source a named.0 fit.0;
        to = named_end r.rule.destination b named.1 fit.1;
        has_left = in_a;
        has_right = in_b;
        left_attaches = stands.first_attaches;
        right_attaches = stands.second_attaches;
        services = refl;
      };
      rule = refl;
    }

turned : (c : Config) (a b : Network) (r : NumberedRule) → IsBetween c a b r → IsBetween c b a r
turned c a b r h = record {
  policy = h.policy;
  place = h.place;
  configured = h.configured;
  first_attaches = h.second_attaches;
  second_attaches = h.first_attaches;
  stands = h.stands;
  sequence = h.sequence;
  position = h.position;
  fits = elim h.fits [ inl one ↦ inr one | inr other ↦ inl other ];
}

-- an entry stands where a test passes
entry_if : (b : Bool) (x r : AclRule) → Contains (cond b (x ∷ []) []) r → IsTrue b × (x ≡ r)
entry_if false x r h = absurd (omega (arith, h.1))
entry_if true x r h =
    elim (contains_cases x [] r h) [ inl same ↦ (refl, same) | inr none ↦ absurd (omega (arith, none.1)) ]

unless_same : (same : Bool) (rules : List AclRule) (r : AclRule) → Contains (cond same [] rules) r → Contains rules r
unless_same true rules r h = absurd (omega (arith, h.1))
unless_same false rules r h = h

both_ways : (d : Direction) → IsTrue (speaks_both_ways d) → d ≡ BothWays
both_ways OneWay h = cc
both_ways BothWays h = refl

both_by : (q r : Rule) → q ≡ r → IsTrue (speaks_both_ways r.direction) → q.direction ≡ BothWays
both_by q r same h = ap (λ (x : Rule). x.direction) same ∙ both_ways r.direction h

entered : (t : Topology) (c : Config) (at : Addr) (a b : Network) (r : AclRule) (i : InstanceId) → IsValid t c → Contains c.networks a → Contains c.networks b
    → HasPortAt t c at a → Contains (acl_rules c a b) r → entered_by r.action ≡ Some i → IsNeeded t c at i
entered t c at a b r i v in_a in_b port h enters =
    let q = joined_is (entries_of c a b) (rules_between c a b) r (unless_same (same_name a.name b.name) (oriented c a b) r h) in
    let stands = (between_iff c a b q.0).0 q.1 in
    elim (Contains-append_cases (forwards c a b q.0) (backwards c a b q.0) r q.2) [
      | inl forward ↦
          let k = entry_if (fits q.0.rule a b) (forward_entry c q.0) r forward in
          let l = leads_is c false q.0.rule.action i (ap (λ (x : AclRule). entered_by x.action) k.1 ∙ enters) in
          let u = in_effect t c a b q.0 l.chain l.number v in_a in_b stands ((fits_iff q.0.rule a b).0 k.0) l.leads in
          by_first_hop (use_by_rule c a b l.chain l.number) u.used port l.at
      | inr back ↦
          let k = entry_if (speaks_both_ways q.0.rule.direction && fits q.0.rule b a) (mirrored_entry c q.0) r back in
          let l = leads_is c true q.0.rule.action i (ap (λ (x : AclRule). entered_by x.action) k.1 ∙ enters) in
          let parts = and_parts (speaks_both_ways q.0.rule.direction) (fits q.0.rule b a) k.0 in
          let u = in_effect t c b a q.0 l.chain l.number v in_b in_a (turned c a b q.0 stands) ((fits_iff q.0.rule b a).0 parts.1) l.leads in
          let both : u.used.rule.direction ≡ BothWays = both_by u.used.rule q.0.rule u.rule parts.0 in
          by_last_hop (use_by_rule c b a l.chain l.number) u.used both port l.at
    ]

one_only : (j i : InstanceId) → Contains (j ∷ []) i → i ≡ j
one_only j i h = elim (contains_cases j [] i h) [ inl same ↦ sym same | inr none ↦ absurd (omega (arith, none.1)) ]

-- ---- a port at an address

pub same_address : (a b : Addr) → IsTrue (a.0 == b.0) → b ≡ a
same_address a b h = λ k. record { 0 = sym (eqb-true a.0 b.0 h) k }

module _ (t : Topology) (c : Config) (v : IsValid t c) (form : IsTrue (has_config_form c)) (a : Addr) where
  abbrev low : List LowObject
  low = low_objects t c

  abbrev at_port : LowObject → Option InstanceId
  at_port o = port_at a o.1

  port_of : (n : Network) (o : LowObject) (m : InstanceId) → Contains c.networks n → IsObject t c o → at_port o ≡ Some m → m.0 ≡ n.id.0 → HasPortAt t c a n
  port_of n o m in_n (of_network x is in_x are e) h same = let none : None ≡ Some m = ap at_port (sym e) ∙ h in cc
  port_of n o m in_n (of_port home p d at e) h same =
      let there = some_if (d.address.0 == a.0) home.id m (ap at_port (sym e) ∙ h) in
      let number : home.id ≡ n.id = there.1 ∙ (λ k. record { 0 = same k }) in
      let one : home ≡ n = one_numbered t c home n v at.has_home in_n number in
      record { port = p; node = d; at = subst (λ (x : Network). IsPort t c x p d) one at; address = same_address d.address a there.0 }
  port_of n o m in_n (of_left_circuit u j k d used left at e) h same = let none : None ≡ Some m = ap at_port (sym e) ∙ h in cc
  port_of n o m in_n (of_right_circuit u j k d used right at e) h same = let none : None ≡ Some m = ap at_port (sym e) ∙ h in cc
  port_of n o m in_n (of_networks x y in_x in_y around e) h same = let none : None ≡ Some m = ap at_port (sym e) ∙ h in cc
  port_of n o m in_n (of_use u hops used zip e) h same = let none : None ≡ Some m = ap at_port (sym e) ∙ h in cc

  abbrev is_number : ℕ → InstanceId → Bool
  is_number number m = m.0 == number

  pub has_port : (n : Network) → Contains c.networks n → IsTrue (list_any (is_number n.id.0) (networks_at low a)) → HasPortAt t c a n
  has_port n in_n h =
      let some : Any (λ (m : InstanceId). is_number n.id.0 m ≡ true) (networks_at low a) = Any-from_list_any (is_number n.id.0) (networks_at low a) h in
      let g = given at_port low some.1 (some.0, some.2, some.3) in
      port_of n g.0 some.1 in_n (low_is t c g.0 v form g.1) g.2 (eqb-true some.1.0 n.id.0 some.4)

  at_node : (d : Node) → a ≡ d.address → (d.address.0 == a.0) ≡ true
  at_node d e = eq-eqb d.address.0 a.0 (ap (λ (x : Addr). x.0) (sym e))

  pub port_there : (n : Network) → HasPortAt t c a n → IsTrue (list_any (is_number n.id.0) (networks_at low a))
  port_there n h =
      let o : LowObject = attached_port h.port n h.node in
      let there : Contains (networks_at low a) n.id =
      gives at_port low o n.id (is_low t c o v form (of_port n h.port h.node h.at refl)) (is_some (h.node.address.0 == a.0) n.id (at_node h.node h.address)) in
      list_any-from_Any (is_number n.id.0) (networks_at low a)
      (any_of (λ (m : InstanceId). is_number n.id.0 m ≡ true) (networks_at low a) n.id there (eq-eqb n.id.0 n.id.0 refl))

  -- ---- what an object needs

  abbrev pub asked : LowObject → Type 0
  asked o = concerns low a o.0 o.1 ≡ true

  abbrev needs : LowObject → List InstanceId
  needs o = needed_for o.1

  object_needs : (o : LowObject) (i : InstanceId) → IsObject t c o → asked o → Contains (needs o) i → IsNeeded t c a i
  object_needs o i (of_network n is in_n are e) here h =
      let none : Contains {X = InstanceId} [] i = subst (λ (x : LowObject). Contains (needs x) i) e h in
      absurd (omega (arith, none.1))
  object_needs o i (of_port n p d at e) here h =
      let only : Contains (n.id ∷ []) i = subst (λ (x : LowObject). Contains (needs x) i) e h in
      let there : IsTrue (d.address.0 == a.0) = subst asked e here in
      by_port n (record { port = p; node = d; at = at; address = same_address d.address a there }) (one_only n.id i only)
  object_needs o i (of_left_circuit u j k d used left at e) here h =
      let only : Contains (circuit_instance_of k.number ∷ []) i = subst (λ (x : LowObject). Contains (needs x) i) e h in
      let there : IsTrue (d.address.0 == a.0) = subst asked e here in
      by_circuit u j k d used (inl left) at (same_address d.address a there) (one_only (circuit_instance_of k.number) i only)
  object_needs o i (of_right_circuit u j k d used right at e) here h =
      let only : Contains (circuit_instance_of k.number ∷ []) i = subst (λ (x : LowObject). Contains (needs x) i) e h in
      let there : IsTrue (d.address.0 == a.0) = subst asked e here in
      by_circuit u j k d used (inr right) at (same_address d.address a there) (one_only (circuit_instance_of k.number) i only)
  object_needs o i (of_networks x y in_x in_y around e) here h =
      let rules : Contains (filter_map (λ (r : AclRule). entered_by r.action) (acl_rules c x y)) i = subst (λ (z : LowObject). Contains (needs z) i) e h in
      let there : IsTrue (list_any (is_number x.id.0) (networks_at low a)) = subst asked e here in
      let g = given (λ (r : AclRule). entered_by r.action) (acl_rules c x y) i rules in
      entered t c a x y g.0 i v in_x in_y (has_port x in_x there) g.1 g.2
  object_needs o i (of_use u hops used zip e) here h =
      let none : Contains {X = InstanceId} [] i = subst (λ (x : LowObject). Contains (needs x) i) e h in
      absurd (omega (arith, none.1))

  pub needed_for_is : (i : InstanceId) → Contains (needed_by (slice_of low a)) i → IsNeeded t c a i
  needed_for_is i h =
      let q = joined_is needs (slice_of low a) i h in
      let k = kept_is (λ (e : LowObject). concerns low a e.0 e.1) low q.0 q.1 in
      object_needs q.0 i (low_is t c q.0 v form k.0) k.1 q.2

  -- ---- and what it needs, an object makes it need

  by_object : (o : LowObject) (i : InstanceId) → IsObject t c o → asked o → Contains (needs o) i → Contains (needed_by (slice_of low a)) i
  by_object o i is here h =
      is_joined needs (slice_of low a) o i (is_kept (λ (e : LowObject). concerns low a e.0 e.1) low o (is_low t c o v form is) here) h

  only_one : (j i : InstanceId) → i ≡ j → Contains (j ∷ []) i
  only_one j i e = subst (Contains (j ∷ [])) (sym e) (contains_here j [])

  -- a rule of a use in effect, between its networks
  record RuleOf (u : ConfiguredUse) (used : IsUse c u) : Type 0 where
    rule : NumberedRule
    is : rule.rule ≡ used.rule
    stands : IsBetween c u.left u.right rule
    fit : Fits rule.rule u.left u.right

  rule_of : (u : ConfiguredUse) (used : IsUse c u) → RuleOf u used
  rule_of u used =
      let place = at_place used.policy.rules used.rule used.has_rule in
      let fit : Fits used.rule u.left u.right = (
        subst (λ (e : End). IsEnd e u.left) (sym used.from) refl,
        subst (λ (e : End). IsEnd e u.right) (sym used.to) refl,
      ) in
      record {
        rule = record { number = record { sequence = used.policy.sequence; position = place.0 + 1 }; rule = used.rule };
        is = refl;
        stands = record {
          policy = used.policy;
          place = place.0;
          configured = used.has_policy;
          first_attaches = used.left_attaches;
          second_attaches = used.right_attaches;
          stands = place.1;
          sequence = refl;
          position = refl;
          fits = inl fit;
        };
        fit = fit;
      }

  where_not_same : (same : Bool) (rules : List AclRule) (r : AclRule) → same ≢ true → Contains rules r → Contains (cond same [] rules) r
  where_not_same true rules r never h = absurd (never refl)
  where_not_same false rules r never h = h

  enters_by : (x y : Network) (r : NumberedRule) (entry : AclRule) (i : InstanceId) → Contains c.networks x → Contains c.networks y → AreRelated c x y
      → HasPortAt t c a x → IsBetween c x y r → Contains (entries_of c x y r) entry → entered_by entry.action ≡ Some i
      → Contains (needed_by (slice_of low a)) i
  enters_by x y r entry i in_x in_y related port stands inside enters =
      let o : LowObject = acl_object c x y in
      let apart : same_name x.name y.name ≢ true = λ same. related.differ ((same_name_iff x.name y.name).0 same) in
      let there : Contains (acl_rules c x y) entry =
      where_not_same (same_name x.name y.name) (oriented c x y) entry apart
      (is_joined (entries_of c x y) (rules_between c x y) r entry ((between_iff c x y r).1 stands) inside) in
      by_object o i (of_networks x y in_x in_y (inr related) refl) (port_there x port)
      (gives (λ (r : AclRule). entered_by r.action) (acl_rules c x y) entry i there enters)

  pub is_needed_for : (i : InstanceId) → IsNeeded t c a i → Contains (needed_by (slice_of low a)) i
  is_needed_for i (by_port n h e) =
      by_object (attached_port h.port n h.node) i (of_port n h.port h.node h.at refl) (at_node h.node h.address) (only_one n.id i e)
  is_needed_for i (by_circuit u j k d used side at here e) =
      let is : IsObject t c (attached_circuit k d) =
      elim side [ inl left ↦ of_left_circuit u j k d used left at refl | inr right ↦ of_right_circuit u j k d used right at refl ] in
      by_object (attached_circuit k d) i is (at_node d here) (only_one (circuit_instance_of k.number) i e)
  is_needed_for i (by_first_hop u used port e) =
      let x = rule_of u used in
      let entry : AclRule = forward_entry c x.rule in
      let leads : x.rule.rule.action ≡ Through used.chain u.number = ap (λ (r : Rule). r.action) x.is ∙ used.leads in
      let enters : entered_by entry.action ≡ Some i = ap (λ (b : Action). entered_by (does c false b)) leads ∙ ap (λ (j : InstanceId). Some j) (sym e) in
      enters_by u.left u.right x.rule entry i used.has_left used.has_right (ends_related t c u v used) port x.stands
      (Contains-append_left (forwards c u.left u.right x.rule) (backwards c u.left u.right x.rule) entry
      (is_there (fits x.rule.rule u.left u.right) (entry ∷ []) entry ((fits_iff x.rule.rule u.left u.right).1 x.fit) (contains_here entry []))) enters
  is_needed_for i (by_last_hop u used both port e) =
      let x = rule_of u used in
      let entry : AclRule = mirrored_entry c x.rule in
      let leads : x.rule.rule.action ≡ Through used.chain u.number = ap (λ (r : Rule). r.action) x.is ∙ used.leads in
      let last : hop_instance_of u.number (length (expansion c used.chain)) ≡ i =
      ap (λ (ss : List Service). hop_instance_of u.number (length ss)) (sym used.services) ∙ sym e in
      let enters : entered_by entry.action ≡ Some i = ap (λ (b : Action). entered_by (does c true b)) leads ∙ ap (λ (j : InstanceId). Some j) last in
      let speaks : IsTrue (speaks_both_ways x.rule.rule.direction) = ap (λ (r : Rule). speaks_both_ways r.direction) x.is ∙ ap speaks_both_ways both in
      let related = ends_related t c u v used in
      let back : AreRelated c u.right u.left = record {
        differ = λ same. related.differ (sym same);
        rule = related.rule;
        stands = turned c u.left u.right related.rule related.stands;
        lets = related.lets;
      } in
      let test : IsTrue (speaks_both_ways x.rule.rule.direction && fits x.rule.rule u.left u.right) =
      and_from (speaks_both_ways x.rule.rule.direction) (fits x.rule.rule u.left u.right) speaks ((fits_iff x.rule.rule u.left u.right).1 x.fit) in
      enters_by u.right u.left x.rule entry i used.has_right used.has_left back port (turned c u.left u.right x.rule x.stands)
      (Contains-append_right (forwards c u.right u.left x.rule) (backwards c u.right u.left x.rule) entry
      (is_there (speaks_both_ways x.rule.rule.direction && fits x.rule.rule u.left u.right) (entry ∷ []) entry test (contains_here entry []))) enters

  -- ---- each is an instance of the configuration

  needed_exists : (i : InstanceId) → IsNeeded t c a i → IsInstance c i
  needed_exists i (by_port n h e) = instance.of_network n h.at.has_home e
  needed_exists i (by_circuit u j k d used (inl left) at here e) =
      let few = place_within u.services j k.service left.service in
      instance.of_hop u j used (omega arith) (e ∙ left_instance u j k left)
  needed_exists i (by_circuit u j k d used (inr right) at here e) =
      let few = place_within u.services j k.service right.service in
      instance.of_hop u (j + 1) used (omega arith) (e ∙ right_instance u j k right)
  needed_exists i (by_first_hop u used port e) = instance.of_hop u 0 used (omega arith) e
  needed_exists i (by_last_hop u used both port e) = instance.of_hop u (length u.services) used (omega arith) e

  pub needed_iff : (i : InstanceId) → Contains (needed_by (slice_of low a)) i ↔ IsNeeded t c a i
  needed_iff i = (needed_for_is i, is_needed_for i)

pub needed_is : (t : Topology) (c : Config) (a : Addr) (i : InstanceId) → IsValid t c → IsTrue (has_config_form c)
    → Contains (needed_by (slice_of (low_objects t c) a)) i → IsInstance c i
needed_is t c a i v form h = needed_exists t c v form a i (needed_for_is t c v form a i h)
