-- Chains of one configuration expand alike in another that has all of its services and chains.
use Rattle.std.proofs.Common.{◌≡◌, ◌≢◌, inl, inr, ℕ, true, false, List, [], ◌++◌, Option, Some, None, map, refl, sym, ap, ◌∙◌, subst, arith}
use Rattle.std.specs.List.{All, Contains, find}
use Rattle.std.specs.Option.{IsSome, option_map_or}
use Rattle.std.proofs.lemmas.List.Elements.{All-contains, Contains-append_cases}
use Rattle.ov_types.specs.First.{same_name}
use Rattle.ov_types.proofs.FirstLemmas.{contains_cases, find_none, found_is, same_name_iff}
use Rattle.config_types.specs.declared.config.Chain.{Chain}
use Rattle.config_types.specs.declared.config.Config.{Config}
use Rattle.config_types.specs.declared.config.Service.{Service}
use Rattle.config_types.specs.declared.topology.Topology.{Topology}
use Rattle.chain_expand.specs.Expansion.{chain_named, expansion, hops_of, service_named}
use Rattle.chain_expand.specs.Leading.{Expands, IsLoopFree, NamesThings}
use Rattle.chain_expand.specs.Leading.Expands.{of_chain, of_nothing, of_service}
use Rattle.chain_expand.proofs.ExpandsLaws.{expansion_expands, one_expansion}
use Rattle.chain_expand.proofs.OkLaws.{loop_free}
use Rattle.policy_rules.proofs.Lists.{is_mapped, mapped_is}
use Rattle.config_check.specs.Rules.{chain_names, service_names}
use Rattle.config_check.specs.Sentences.{AreDistinct, IsValid}
use Rattle.config_check.proofs.EachRule.{straight_iff}
use Rattle.config_check.proofs.Finders.{back_pairs}
use Rattle.config_check.proofs.Straight.{no_loop}
use Rattle.hitless_cells.proofs.Named.{across, found_of, found_on, front_pairs}

abbrev service_name : Service → List ℕ
service_name s = s.name

abbrev chain_name : Chain → List ℕ
chain_name d = d.name

-- what a list has of a name is found
some_found : {A : Type 0} (name_of : A → List ℕ) (xs : List A) (name : List ℕ) (x : A) → Contains xs x → name_of x ≡ name
    → IsSome (find (λ y. same_name (name_of y) name) xs)
some_found {A} name_of xs name x at is = by (find (λ y. same_name (name_of y) name) xs) refl
  where
    by : (o : Option A) → find (λ y. same_name (name_of y) name) xs ≡ o → IsSome o
    by (Some y) e = refl
    by None e =
        let passes : same_name (name_of x) name ≡ true = (same_name_iff (name_of x) name).1 is in
        let fails = All-contains (λ y. same_name (name_of y) name ≡ false) xs x ((find_none (λ y. same_name (name_of y) name) xs).0 e) at in
        absurd (cc)

none_there : {A : Type 0} (x : A) → Contains [] x → ⊥
none_there x at = omega (arith, at.1)

module _ (t : Topology) (c : Config) (v : IsValid t c) where
  pub services_distinct : AreDistinct (map service_name c.services)
  services_distinct = front_pairs (λ a b. a ≢ b) (map service_name c.services) (map chain_name c.chains) v.names.hops

  pub chains_distinct : AreDistinct (map chain_name c.chains)
  chains_distinct = back_pairs (λ a b. a ≢ b) (map service_name c.services) (map chain_name c.chains) v.names.hops

  -- the hops of a name are those of a chain, or there are none
  hop_of_chain : (name hop : List ℕ) → Contains (hops_of c name) hop → (d : Chain) × Contains c.chains d × Contains d.hops hop
  hop_of_chain name hop at = by (chain_named c name) refl at
    where
      by : (o : Option Chain) → chain_named c name ≡ o → Contains (option_map_or (λ d. d.hops) o []) hop → (d : Chain) × Contains c.chains d × Contains d.hops hop
      by None e at = absurd (none_there hop at)
      by (Some d) e at = (d, (found_is (λ (d : Chain). same_name d.name name) c.chains d e).1, at)

  names_things : (name : List ℕ) → NamesThings c name
  names_things name chain hop along at =
      let q = hop_of_chain chain hop at in
      let hops = All-contains (λ (d : Chain). All (Contains (service_names c ++ chain_names c)) d.hops) c.chains q.0 v.references.hops q.1 in
      let named = All-contains (Contains (service_names c ++ chain_names c)) q.0.hops hop hops q.2 in
      elim (Contains-append_cases (service_names c) (chain_names c) hop named) [
        | inl service ↦ let s = mapped_is service_name c.services hop service in inl (some_found service_name c.services hop s.0 s.1 s.2)
        | inr other ↦ let d = mapped_is chain_name c.chains hop other in inr (some_found chain_name c.chains hop d.0 d.1 d.2)
      ]

  is_loop_free : (name : List ℕ) → IsLoopFree c name
  is_loop_free name = loop_free c name (no_loop c name ((straight_iff c).1 v.straight))

  pub expands : (name : List ℕ) → Expands c (hops_of c name) (expansion c name)
  expands name = expansion_expands c name (is_loop_free name) (names_things name)

  -- no service has the name of a chain
  pub no_service : (d : Chain) (name : List ℕ) → Contains c.chains d → d.name ≡ name → service_named c name ≡ None
  no_service d name at named = by (service_named c name) refl
    where
      by : (o : Option Service) → service_named c name ≡ o → o ≡ None
      by None e = refl
      by (Some s) e =
          let f = found_is (λ (s : Service). same_name s.name name) c.services s e in
          let same : s.name ≡ d.name = (same_name_iff s.name name).0 f.0 ∙ sym named in
          absurd (across (λ a b. a ≢ b) (map service_name c.services) (map chain_name c.chains) v.names.hops s.name d.name
          (is_mapped service_name c.services s f.1) (is_mapped chain_name c.chains d at) same)

-- the services of an expansion stand in the configuration
members : {c : Config} {hops : List (List ℕ)} {ss : List Service} → Expands c hops ss → (s : Service) → Contains ss s → Contains c.services s
members (of_nothing e) s at = absurd (none_there s (subst (λ xs. Contains xs s) e at))
members {c} (of_service {hop = hop} {s = first} {rest = rest} named others e) s at =
    let more = members others s in
    elim (contains_cases first rest s (subst (λ xs. Contains xs s) e at)) [
      | inl here ↦ subst (Contains c.services) here (found_is (λ (s : Service). same_name s.name hop) c.services first named).1
      | inr later ↦ more later
    ]
members (of_chain {inner = inner} {rest = rest} none named inside others e) s at =
    let within = members inside s in
    let more = members others s in
    elim (Contains-append_cases inner rest s (subst (λ xs. Contains xs s) e at)) [
      | inl here ↦ within here
      | inr later ↦ more later
    ]

pub stand : (t : Topology) (c : Config) → IsValid t c → (name : List ℕ) (s : Service) → Contains (expansion c name) s → Contains c.services s
stand t c v name s at = members (expands t c v name) s at

-- from one configuration to one that has more
module _ (t u : Topology) (c e : Config) (v : IsValid t c) (w : IsValid u e) (more_services : (s : Service) → Contains c.services s → Contains e.services s)
    (more_chains : (d : Chain) → Contains c.chains d → Contains e.chains d) where
  service_on : (name : List ℕ) (s : Service) → service_named c name ≡ Some s → service_named e name ≡ Some s
  service_on name s = found_on service_name c.services e.services name s (services_distinct u e w) more_services

  chain_on : (name : List ℕ) (d : Chain) → chain_named c name ≡ Some d → chain_named e name ≡ Some d
  chain_on name d = found_on chain_name c.chains e.chains name d (chains_distinct u e w) more_chains

  no_service_on : (name : List ℕ) (d : Chain) → chain_named c name ≡ Some d → service_named e name ≡ None
  no_service_on name d h =
      let f = found_is (λ (d : Chain). same_name d.name name) c.chains d h in
      no_service u e w d name (more_chains d f.1) ((same_name_iff d.name name).0 f.0)

  expands_on : {hops : List (List ℕ)} {ss : List Service} → Expands c hops ss → Expands e hops ss
  expands_on (of_nothing q) = of_nothing q
  expands_on (of_service {hop = hop} {s = s} named others q) = of_service (service_on hop s named) (expands_on others) q
  expands_on (of_chain {hop = hop} {d = d} none named inside others q) =
      of_chain (no_service_on hop d named) (chain_on hop d named) (expands_on inside) (expands_on others) q

  pub expansion_on : (name : List ℕ) → Contains (chain_names c) name → expansion c name ≡ expansion e name
  expansion_on name at =
      let d = mapped_is chain_name c.chains name at in
      let here : chain_named c name ≡ Some d.0 = found_of chain_name c.chains name d.0 (chains_distinct t c v) d.1 d.2 in
      let hops : hops_of c name ≡ hops_of e name = ap (λ (o : Option Chain). option_map_or (λ d. d.hops) o []) (here ∙ sym (chain_on name d.0 here)) in
      let one : Expands e (hops_of e name) (expansion c name) = subst (λ (hs : List (List ℕ)). Expands e hs (expansion c name)) hops (expands_on (expands t c v name)) in
      one_expansion one (expansion e name) (expands u e w name)
