-- Access lists enter only uses that stand between their two networks.
use Rattle.transform_model.specs.AclCompile.Oriented.{acl_rules, backwards, does, entries_of, forward_entry, forwards, hop_entered, mirrored_entry, oriented}
use Rattle.transform_model.proofs.AclCompile.Bounded.{keeps_bounds}
use Rattle.transform_model.proofs.AclCompile.Kept.{chain_is_short}
use Rattle.std.specs.List.{Contains}
use Rattle.std.specs.Prelude.{Bool, IsTrue, List, cond, false, true, ℕ, [], ◌&&◌, ◌∷◌, ◌≡◌, ◌≢◌, ◌≤◌}
use Rattle.std.specs.declared.option.Option.TheVariants.{Some}
use Rattle.std.proofs.Common.{ap, arith, inl, inr, refl, subst, sym, ◌∙◌}
use Rattle.std.proofs.lemmas.Bool.{and_parts}
use Rattle.std.proofs.lemmas.List.Elements.{All-contains}
use Rattle.ov_types.specs.First.{same_name}
use Rattle.ov_types.specs.declared.numbers.InstanceId.{InstanceId}
use Rattle.ov_types.specs.declared.objects.AclAction.TheVariants as Does
use Rattle.ov_types.specs.declared.objects.AclRule.{AclRule}
use Rattle.ov_types.proofs.FirstLemmas.{contains_at}
use Rattle.route_targets.specs.Numbers.{hop_instance_of}
use Rattle.config_types.specs.Form.{has_config_form}
use Rattle.config_types.specs.declared.config.Action.TheVariants.{Deny, Pass, Through}
use Rattle.config_types.specs.declared.config.Action.{Action}
use Rattle.config_types.specs.declared.config.End.TheVariants.{Any, Named}
use Rattle.config_types.specs.declared.config.End.{End}
use Rattle.config_types.specs.declared.config.Network.{Network}
use Rattle.machine_model.specs.Setup.{Setup}
use Rattle.schedule_script.specs.ConfigCheck.Sentences.{IsValid, NamesEnds}
use Rattle.schedule_script.proofs.ConfigCheck.Validity.{valid_iff}
use Rattle.policy_rules.specs.Matching.{speaks_both_ways}
use Rattle.policy_rules.specs.Related.{all_rules, fits, rules_between}
use Rattle.policy_rules.specs.Standing.{Fits, IsBetween, IsEnd}
use Rattle.policy_rules.specs.declared.numbered.NumberedRule.{NumberedRule}
use Rattle.policy_rules.proofs.Standing.{between_iff, fits_iff}
use Rattle.transform_model.proofs.InUse.{among_all, numbered}
use Rattle.node_laws.specs.NodeModel.Members.{Member}
use Rattle.node_laws.specs.NodeModel.Uses.{is_hop, use_of}
use Rattle.node_laws.proofs.NodeModel.Members.{from_flat_map, in_either, member_when}
use Rattle.node_laws.proofs.NodeModel.Objects.{is_hop-hop, use_of-hop}
use Rattle.node_laws.proofs.NodeModel.Members.{contains_of}
use Rattle.config_types.specs.declared.config.Rule.{Rule}
use Rattle.schedule_script.specs.Ties.{HasUse, IsTiedBy, Ties}
use Rattle.machine_laws.specs.Tied.{StandsBetween}

-- ---- ends of rules
end_named : (e : End) (n : Network) → e ≢ Any → IsEnd e n → e ≡ Named n.name
end_named Any n h is = absurd (h refl)
end_named (Named name) n h is = ap Named is

module _ (t : Ties) (x : Setup) (form : IsTrue (has_config_form x.config)) (v : IsValid x.topology x.config) (is : IsTiedBy t x.config) where
  -- ---- what access lists enter
  ends_of : (a b : Network) (r : NumberedRule) → IsBetween x.config a b r → NamesEnds r.rule
  ends_of a b r h =
      let there = contains_at h.policy.rules h.place r.rule h.stands in
      let n = numbered h.policy r.rule there in
      subst NamesEnds n.2 (All-contains (λ (r : NumberedRule). NamesEnds r.rule) (all_rules x.config) n.0 v.ends (among_all x.config h.policy n.0 h.configured n.1))

  chain_rule : (a b c d : Network) (r : NumberedRule) (chain : List ℕ) (number : ℕ) → IsBetween x.config a b r → r.rule.action ≡ Through chain number → Fits r.rule c d → Contains x.config.networks c → Contains x.config.networks d → HasUse x.config number (c.id, d.id)
  chain_rule a b c d r chain number h act f in_c in_d =
      let ends = ends_of a b r h chain number act in
      let n = numbered h.policy r.rule (contains_at h.policy.rules h.place r.rule h.stands) in
      record {
        rule = n.0;
        chain = chain;
        left = c;
        right = d;
        has_rule = among_all x.config h.policy n.0 h.configured n.1;
        has_left = in_c;
        has_right = in_d;
        leads = ap (λ (r : Rule). r.action) n.2 ∙ act;
        from = ap (λ (r : Rule). r.source) n.2 ∙ end_named r.rule.source c ends.0 f.0;
        to = ap (λ (r : Rule). r.destination) n.2 ∙ end_named r.rule.destination d ends.1 f.1;
        left_is = refl;
        right_is = refl;
      }

  few_hops : (chain : List ℕ) (mirrored : Bool) → hop_entered x.config chain mirrored ≤ 15
  few_hops chain false = omega arith
  few_hops chain true = chain_is_short x.config chain (keeps_bounds x.topology x.config form ((valid_iff x.topology x.config).1 v))

  abbrev pub Enters : Network → Network → InstanceId → Type 0
  Enters a b i = (is_hop i ≡ true) × StandsBetween t (use_of i) a.id b.id

  entered : (a b c d : Network) (r : NumberedRule) (mirrored : Bool) (i : InstanceId) → IsBetween x.config a b r → Fits r.rule c d → Contains x.config.networks c → Contains x.config.networks d
      → ((u : ℕ) → t.chain_use u ≡ Some (c.id, d.id) → StandsBetween t u a.id b.id) → (act : Action) → r.rule.action ≡ act → does x.config mirrored act ≡ Does.Enter i → Enters a b i
  entered a b c d r mirrored i h f in_c in_d stands Pass act e = absurd (never i e)
    where
      never : (i : InstanceId) → Does.Pass ≡ Does.Enter i → ⊥
      never i e = cc
  entered a b c d r mirrored i h f in_c in_d stands Deny act e = absurd (never i e)
    where
      never : (i : InstanceId) → Does.Deny ≡ Does.Enter i → ⊥
      never i e = cc
  entered a b c d r mirrored i h f in_c in_d stands (Through chain number) act e =
      let j = hop_entered x.config chain mirrored in
      let same : hop_instance_of number j ≡ i = same_instance (hop_instance_of number j) i e in
      let of : use_of i ≡ number = ap use_of (sym same) ∙ use_of-hop number j (few_hops chain mirrored) in
      (ap is_hop (sym same) ∙ is_hop-hop number j, subst (λ (u : ℕ). StandsBetween t u a.id b.id) (sym of) (stands number (is.uses number (c.id, d.id) (chain_rule a b c d r chain number h act f in_c in_d))))
    where
      same_instance : (i j : InstanceId) → Does.Enter i ≡ Does.Enter j → i ≡ j
      same_instance i j e = cc

  of_entry : (a b : Network) (r : NumberedRule) (entry : AclRule) (i : InstanceId) → Contains x.config.networks a → Contains x.config.networks b → IsBetween x.config a b r → Member entry (entries_of x.config a b r) → entry.action ≡ Does.Enter i → Enters a b i
  of_entry a b r entry i in_a in_b h m act =
      elim (in_either entry (forwards x.config a b r) (backwards x.config a b r) m) as (λ _. Enters a b i) [
        | inl l ↦
            let w = member_when (fits r.rule a b) entry (forward_entry x.config r ∷ []) l in
            elim w.1 as (λ _. Enters a b i) [
              | inl e ↦ entered a b a b r false i h ((fits_iff r.rule a b).0 w.0) in_a in_b (λ u s. inl s) r.rule.action refl (ap (λ (r : AclRule). r.action) e ∙ act)
              | inr n ↦ absurd n
            ]
        | inr l ↦
            let w = member_when (speaks_both_ways r.rule.direction && fits r.rule b a) entry (mirrored_entry x.config r ∷ []) l in
            elim w.1 as (λ _. Enters a b i) [
              | inl e ↦ entered a b b a r true i h ((fits_iff r.rule b a).0 (and_parts (speaks_both_ways r.rule.direction) (fits r.rule b a) w.0).1) in_b in_a (λ u s. inr s) r.rule.action refl (ap (λ (r : AclRule). r.action) e ∙ act)
              | inr n ↦ absurd n
            ]
      ]

  pub of_rules : (a b : Network) (entry : AclRule) (i : InstanceId) → Contains x.config.networks a → Contains x.config.networks b → Member entry (acl_rules x.config a b) → entry.action ≡ Does.Enter i → Enters a b i
  of_rules a b entry i in_a in_b m act =
      elim (same_name a.name b.name) as (λ s. Member entry (cond s [] (oriented x.config a b)) → Enters a b i) [
        | true ↦ λ m. absurd m
        | false ↦ λ m.
            let q = from_flat_map (entries_of x.config a b) entry (rules_between x.config a b) m in
            of_entry a b q.0 entry i in_a in_b ((between_iff x.config a b q.0).0 (contains_of (rules_between x.config a b) q.0 q.1)) q.2 act
      ] m
