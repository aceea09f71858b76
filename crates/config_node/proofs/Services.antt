-- Each chain of a valid configuration of the written form, and each use of one, leads through some service.
use Rattle.std.proofs.Common.{◌≡◌, inl, inr, ℕ, ◌≤◌, true, false, IsTrue, List, [], ◌++◌, length, Option, Some, None, refl, sym, ap, ◌∙◌, subst, arith}
use Rattle.std.proofs.Common.{length-append}
use Rattle.std.specs.List.{All, Contains, find}
use Rattle.std.specs.Option.{IsSome, option_map_or}
use Rattle.std.proofs.lemmas.List.Elements.{All-contains, Contains-append_cases}
use Rattle.ov_types.specs.First.{same_name}
use Rattle.ov_types.proofs.FirstLemmas.{find_none, found_is, same_name_iff}
use Rattle.config_types.specs.Form.{has_config_form}
use Rattle.config_types.specs.declared.config.Action.TheVariants.{Through}
use Rattle.config_types.specs.declared.config.Chain.{Chain}
use Rattle.config_types.specs.declared.config.Config.{Config}
use Rattle.config_types.specs.declared.config.Rule.{Rule}
use Rattle.config_types.specs.declared.config.Service.{Service}
use Rattle.config_types.specs.declared.topology.Topology.{Topology}
use Rattle.machine_model.specs.ChainExpand.Expansion.{chain_named, expansion, hops_of}
use Rattle.machine_model.specs.ChainExpand.Leading.{Expands, IsLoopFree, NamesThings}
use Rattle.machine_model.specs.ChainExpand.Leading.Expands.{of_chain, of_nothing, of_service}
use Rattle.machine_model.proofs.ChainExpand.ExpandsLaws.{expansion_expands}
use Rattle.machine_model.proofs.ChainExpand.OkLaws.{loop_free}
use Rattle.policy_rules.specs.Related.{all_rules}
use Rattle.policy_rules.specs.declared.numbered.NumberedRule.{NumberedRule}
use Rattle.machine_model.specs.ConfigCheck.Rules.{chain_names, network_names, service_names}
use Rattle.machine_model.specs.ConfigCheck.Sentences.{ChainExists, EndExists, IsValid}
use Rattle.machine_model.proofs.ConfigCheck.EachRule.{straight_iff}
use Rattle.machine_model.proofs.ConfigCheck.Straight.{no_loop}
use Rattle.machine_model.specs.TransformModel.IsUse.{IsUse}
use Rattle.machine_model.specs.TransformModel.Uses.{ConfiguredUse}
use Rattle.machine_model.proofs.TransformModel.InUse.{among_all, numbered}
use Rattle.policy_rules.proofs.Lists.{mapped_is}
use Rattle.config_node.proofs.Forms.{chain_has_hops}

-- what a list has of a name is found
finds : {A : Type 0} (name_of : A → List ℕ) (xs : List A) (name : List ℕ) (x : A) → Contains xs x → name_of x ≡ name
    → IsSome (find (λ y. same_name (name_of y) name) xs)
finds {A} name_of xs name x at is = by (find (λ y. same_name (name_of y) name) xs) refl
  where
    by : (o : Option A) → find (λ y. same_name (name_of y) name) xs ≡ o → IsSome o
    by (Some y) e = refl
    by None e =
        let passes : same_name (name_of x) name ≡ true = (same_name_iff (name_of x) name).1 is in
        let fails = All-contains (λ y. same_name (name_of y) name ≡ false) xs x ((find_none (λ y. same_name (name_of y) name) xs).0 e) at in
        absurd (cc)

none_there : {A : Type 0} (x : A) → Contains [] x → ⊥
none_there x at = omega (arith, at.1)

module _ (t : Topology) (c : Config) (form : IsTrue (has_config_form c)) (v : IsValid t c) where
  -- the hops of a name are those of a chain, or there are none
  hop_of_chain : (name hop : List ℕ) → Contains (hops_of c name) hop → (d : Chain) × Contains c.chains d × Contains d.hops hop
  hop_of_chain name hop at = by (chain_named c name) refl at
    where
      by : (o : Option Chain) → chain_named c name ≡ o → Contains (option_map_or (λ d. d.hops) o []) hop → (d : Chain) × Contains c.chains d × Contains d.hops hop
      by None e at = absurd (none_there hop at)
      by (Some d) e at = (d, (found_is (λ (d : Chain). same_name d.name name) c.chains d e).1, at)

  names_things : (name : List ℕ) → NamesThings c name
  names_things name chain hop along at =
      let q = hop_of_chain chain hop at in
      let hops = All-contains (λ (d : Chain). All (Contains (service_names c ++ chain_names c)) d.hops) c.chains q.0 v.references.hops q.1 in
      let named = All-contains (Contains (service_names c ++ chain_names c)) q.0.hops hop hops q.2 in
      elim (Contains-append_cases (service_names c) (chain_names c) hop named) [
        | inl service ↦ let s = mapped_is (λ (s : Service). s.name) c.services hop service in inl (finds (λ (s : Service). s.name) c.services hop s.0 s.1 s.2)
        | inr other ↦ let d = mapped_is (λ (d : Chain). d.name) c.chains hop other in inr (finds (λ (d : Chain). d.name) c.chains hop d.0 d.1 d.2)
      ]

  is_loop_free : (name : List ℕ) → IsLoopFree c name
  is_loop_free name = loop_free c name (no_loop c name ((straight_iff c).1 v.straight))

  some_services : {hops : List (List ℕ)} {services : List Service} → Expands c hops services → 1 ≤ length hops → 1 ≤ length services
  some_services (of_nothing e) some = absurd (omega (arith, some))
  some_services (of_service {s = s} {rest = rest} named others e) some = subst (λ (ss : List Service). 1 ≤ length ss) (sym e) (omega arith)
  some_services (of_chain {d = d} {inner = inner} {rest = rest} none named inside others e) some =
      let at = found_is (λ (x : Chain). same_name x.name _) c.chains d named in
      let first = some_services inside (chain_has_hops c form d at.1) in
      subst (λ (ss : List Service). 1 ≤ length ss) (sym e) (omega (arith, length-append inner rest, first))

  -- a chain of the configuration has a service
  has_services : (d : Chain) → Contains c.chains d → 1 ≤ length (expansion c d.name)
  has_services d at = by (chain_named c d.name) refl
    where
      by : (o : Option Chain) → chain_named c d.name ≡ o → 1 ≤ length (expansion c d.name)
      by None e =
          let some : IsSome (chain_named c d.name) = finds (λ (d : Chain). d.name) c.chains d.name d at refl in
          let never : IsSome {T = Chain} None = subst (λ (o : Option Chain). IsSome o) e some in
          absurd (cc)
      by (Some f) e =
          let within = found_is (λ (x : Chain). same_name x.name d.name) c.chains f e in
          let hops : hops_of c d.name ≡ f.hops = ap (λ (o : Option Chain). option_map_or (λ d. d.hops) o []) e in
          let some : 1 ≤ length (hops_of c d.name) = subst (λ (hs : List (List ℕ)). 1 ≤ length hs) (sym hops) (chain_has_hops c form f within.1) in
          some_services (expansion_expands c d.name (is_loop_free d.name) (names_things d.name)) some

  -- and so has a use
  pub some_of_use : (u : ConfiguredUse) → IsUse c u → 1 ≤ length u.services
  some_of_use u h =
      let x = numbered h.policy h.rule h.has_rule in
      let there = among_all c h.policy x.0 h.has_policy x.1 in
      let referents = All-contains (λ (r : NumberedRule). EndExists (network_names c) r.rule.source × EndExists (network_names c) r.rule.destination
      × ChainExists (chain_names c) r.rule.action) (all_rules c) x.0 v.references.rules there in
      let leads : x.0.rule.action ≡ Through h.chain u.number = ap (λ (r : Rule). r.action) x.2 ∙ h.leads in
      let chain : Contains (chain_names c) h.chain = subst (ChainExists (chain_names c)) leads referents.2 in
      let d = mapped_is (λ (d : Chain). d.name) c.chains h.chain chain in
      let some = has_services d.0 d.1 in
      let same : length u.services ≡ length (expansion c d.0.name) = ap length h.services ∙ ap (λ (name : List ℕ). length (expansion c name)) (sym d.2) in
      omega arith
