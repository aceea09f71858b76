-- What is told of lookups that are known by the addresses of their agents.
use Rattle.std.proofs.Common.{◌≡◌, ◌≤◌, ◌==◌, ℕ, zero, suc, true, false, IsTrue, List, [], ◌∷◌, Option, Some, None, find, map, option_map, refl, sym, ap, ◌∙◌, subst, arith}
use Rattle.std.specs.List.{cons_option}
use Rattle.std.specs.Borrow.{Bor}
use Rattle.std.specs.Prelude.{IfSome, is_some, option_copied}
use Rattle.std.proofs.lemmas.Bool.{eq-eqb, eqb-true, true≢false}
use Rattle.std.proofs.lemmas.List.Elements.{All-contains}
use Rattle.ov_types.specs.Access.{verdict}
use Rattle.ov_types.specs.First.{first_of}
use Rattle.ov_types.specs.declared.numbers.InstanceId.{InstanceId}
use Rattle.ov_types.specs.declared.numbers.Label.{Label}
use Rattle.ov_types.specs.declared.numbers.ServiceNo.{ServiceNo}
use Rattle.ov_types.specs.declared.packet.Packet.{Packet}
use Rattle.ov_types.specs.declared.prefix.Addr.{Addr}
use Rattle.ov_types.specs.declared.rows.Attached.{Attached}
use Rattle.ov_types.specs.declared.rows.Attached.TheVariants.{Port, Circuit}
use Rattle.ov_types.specs.declared.rows.Entry.{Entry}
use Rattle.ov_types.specs.declared.verdict.Verdict.{Verdict}
use Rattle.ov_types.specs.declared.verdict.Verdict.TheVariants as Says
use Rattle.ov_types.proofs.FirstLemmas.{answered, find_none, found_is, of_first}
use Rattle.route_targets.specs.Forwarding.{Forwarder, agent_at, as_port, attached, looked_up, source_at}
use Rattle.route_targets.specs.Numbers.{port_label_of}
use Rattle.packet_trace.specs.Lookups.{Arrives, Leading, Lookup, Passes, Stops, hop_of, hops_of, leading, leading_at, leading_by, leading_to, lookups, lookups_at, lookups_by, lookups_from, on_from}
use Rattle.packet_trace.specs.declared.hops.Hop.{Hop}
use Rattle.config_types.specs.Form.{has_config_form}
use Rattle.config_types.specs.declared.config.Config.{Config}
use Rattle.config_types.specs.declared.config.Port.{Port as ConfiguredPort}
use Rattle.config_types.specs.declared.topology.Topology.{Topology}
use Rattle.config_check.specs.Checked.{Checked}
use Rattle.config_check.specs.Finding.{port_numbered}
use Rattle.config_check.specs.Rules.{first_broken}
use Rattle.config_check.specs.Sentences.{IsValid}
use Rattle.config_check.proofs.Validity.{valid_iff}
use Rattle.reach_plain.proofs.PolicyRules.Lists.{mapped_is}
use Rattle.transform_model.proofs.Prefixes.{port_number}
use Rattle.transform_model.proofs.Agents.{agent_is, agents_of, forwarder}
use Rattle.transform_model.proofs.Sources.{starts_nowhere}
use Rattle.inspect_walks.proofs.Gathered.{are_agents}
use Rattle.inspect_walks.specs.Taking.{told_at, told_steps}
use Rattle.inspect_walks.specs.Told.{told, told_walk}
use Rattle.inspect_walks.specs.Walks.{compiled_agents, step_of}
use Rattle.inspect_walks.specs.declared.told_step.ToldStep.{ToldStep}

module _ (agents : List Forwarder) where
  -- an agent is the first of its address
  abbrev IsFirst : Forwarder → Type 0
  IsFirst g = agent_at agents g.address ≡ Some g

  first_itself : (a : Addr) (g : Forwarder) → agent_at agents a ≡ Some g → IsFirst g
  first_itself a g h =
      let same : g.address.0 ≡ a.0 = eqb-true g.address.0 a.0 (found_is (λ f. f.address.0 == a.0) agents g h).0 in
      ap (λ (n : ℕ). find (λ f. f.address.0 == n) agents) same ∙ h

  -- the lookup behind a service is at such an agent
  under : (g : Forwarder) (o : Option Attached) (s : ServiceNo) (m : Lookup) → leading_at g o ≡ Passes s m → g ≡ m.agent
  under g None s m h = cc
  under g (Some (Port port instance)) s m h = cc
  under g (Some (Circuit circuit service)) s m h = cc

  at_hop : (label : Label) (a : Addr) (o : Option Forwarder) → agent_at agents a ≡ o → (s : ServiceNo) (m : Lookup) → leading_to label o ≡ Passes s m → IsFirst m.agent
  at_hop label a None at s m h = cc
  at_hop label a (Some g) at s m h = subst IsFirst (under g (attached g.rows label) s m h) (first_itself a g at)

  behind : (o : Option Entry) (s : ServiceNo) (m : Lookup) → leading_by agents o ≡ Passes s m → IsFirst m.agent
  behind None s m h = cc
  behind (Some e) s m h = at_hop e.label e.next_hop (agent_at agents e.next_hop) refl s m h

  module _ (x : Checked) (address : ℕ) where
    told_first : (l : Lookup) → IsFirst l.agent → told_at x agents address (hop_of l) ≡ Some (told x (step_of agents address l))
    told_first l first =
        ap (λ (o : Option Forwarder). option_map (told x) (option_map (λ g. step_of agents address (record { agent = g; instance = l.instance })) o)) first

    pub told_from : (left : ℕ) (l : Lookup) → IsFirst l.agent
        → told_steps x agents address (map hop_of (lookups_from agents address left l)) ≡ map (told x) (map (step_of agents address) (lookups_from agents address left l))
    told_from zero l first = refl
    told_from (suc left) l first =
        let on : Leading → List Lookup = on_from (lookups_from agents address left) in
        let this : ToldStep = told x (step_of agents address l) in
        ap (λ (o : Option ToldStep). cons_option o (told_steps x agents address (map hop_of (on (leading agents address l))))) (told_first l first)
        ∙ elim (leading agents address l) as (λ d. leading agents address l ≡ d
        → this ∷ told_steps x agents address (map hop_of (on d)) ≡ this ∷ map (told x) (map (step_of agents address) (on d))) [
          | Arrives port ↦ λ e. refl
          | Stops why ↦ λ e. refl
          | Passes s m ↦ λ e. ap (λ (ts : List ToldStep). this ∷ ts) (told_from left m (behind (looked_up l.agent.rows l.instance address) s m e))
        ] refl

module _ (x : Checked) (form : IsTrue (has_config_form x.config)) (valid : first_broken x.topology x.config ≡ None) (p : Packet) where
  abbrev t : Topology
  t = x.topology

  abbrev c : Config
  c = x.config

  abbrev v : IsValid t c
  v = (valid_iff t c).0 valid

  source_stands : (f : Forwarder) (network : InstanceId) → first_of (source_at p) (agents_of t c) ≡ Some (f, network) → IsFirst (agents_of t c) f
  source_stands f network h =
      let P : Forwarder × InstanceId → Type 0 = λ s. IsFirst (agents_of t c) s.0 in
      answered P (first_of (source_at p) (agents_of t c))
      (of_first P (source_at p) (agents_of t c) (λ g in_g.
      let from = mapped_is (forwarder t c) t.nodes g in_g in
      let stands : IsFirst (agents_of t c) g = subst (IsFirst (agents_of t c)) from.2 (agent_is t c v from.0 from.1) in
      elim (as_port (attached g.rows (port_label_of p.source))) as (λ o. IfSome (option_map (λ network. (g, network)) o) P) [ None ↦ tt | Some network ↦ stands ]))
      (f, network) h

  by_verdict : (agents : List Forwarder) (f : Forwarder) (network : InstanceId) (said : Verdict) → IsFirst agents f
      → told_steps x agents p.destination.0 (map hop_of (lookups_by agents p.destination.0 f network said))
      ≡ map (told x) (map (step_of agents p.destination.0) (lookups_by agents p.destination.0 f network said))
  by_verdict agents f network Says.Pass first = told_from agents x p.destination.0 64 (record { agent = f; instance = network }) first
  by_verdict agents f network (Says.Enter i) first = told_from agents x p.destination.0 64 (record { agent = f; instance = i }) first
  by_verdict agents f network (Says.Denied rule) first = refl
  by_verdict agents f network Says.NoDestination first = refl

  by_source : (agents : List Forwarder) (o : Option (Forwarder × InstanceId)) → IfSome o (λ s. IsFirst agents s.0)
      → told_steps x agents p.destination.0 (map hop_of (lookups_at agents p o)) ≡ map (told x) (map (step_of agents p.destination.0) (lookups_at agents p o))
  by_source agents None first = refl
  by_source agents (Some s) first = by_verdict agents s.0 s.1 (verdict s.0.rows.acls s.1.0 p) first

  starts_first : IfSome (first_of (source_at p) (compiled_agents x)) (λ s. IsFirst (compiled_agents x) s.0)
  starts_first =
      subst (λ (agents : List Forwarder). IfSome (first_of (source_at p) agents) (λ s. IsFirst agents s.0)) (sym (are_agents t c))
      (elim (first_of (source_at p) (agents_of t c)) as (λ o. first_of (source_at p) (agents_of t c) ≡ o → IfSome o (λ s. IsFirst (agents_of t c) s.0)) [
        | None ↦ λ e. tt
        | Some s ↦ λ e. source_stands s.0 s.1 e
      ] refl)

  -- what is told of the walk, by the addresses of its agents
  pub told_by_hops : told_steps x (compiled_agents x) p.destination.0 (hops_of (compiled_agents x) p) ≡ told_walk x p
  unfolding lookups told_walk
  told_by_hops = by_source (compiled_agents x) (first_of (source_at p) (compiled_agents x)) starts_first

  -- a packet from a number that no port has makes no lookup

  pub no_walk : port_numbered c p.source.0 ≡ None → [] ≡ told_walk x p
  unfolding lookups told_walk
  no_walk absent =
      let none : first_of (source_at p) (compiled_agents x) ≡ None =
      ap (λ (agents : List Forwarder). first_of (source_at p) agents) (are_agents t c)
      ∙ starts_nowhere t c form v p (λ q in_q same.
      let fails : q.id.0 == p.source.0 ≡ false =
      All-contains (λ (r : ConfiguredPort). r.id.0 == p.source.0 ≡ false) c.ports q ((find_none (λ (r : ConfiguredPort). r.id.0 == p.source.0) c.ports).0 absent) in_q in
      true≢false (sym (eq-eqb q.id.0 p.source.0 (ap (λ n. n.0) same)) ∙ fails)) in
      sym (ap (λ (o : Option (Forwarder × InstanceId)). map (told x) (map (step_of (compiled_agents x) p.destination.0) (lookups_at (compiled_agents x) p o))) none)

  pub source_within : (q : ConfiguredPort) → port_numbered c p.source.0 ≡ Some q → p.source.0 ≤ 524271
  source_within q h =
      let found = found_is (λ (r : ConfiguredPort). r.id.0 == p.source.0) c.ports q h in
      let few : q.id.0 ≤ 524271 = port_number c q form found.1 in
      let number : q.id.0 ≡ p.source.0 = eqb-true q.id.0 p.source.0 found.0 in
      omega (arith, few, number)

  -- the port that a packet is from, as it was looked for

  pub absent : (r : Option (Bor ConfiguredPort)) → option_copied r ≡ port_numbered c p.source.0 → is_some r ≡ false → [] ≡ told_walk x p
  absent None e h = no_walk (sym e)
  absent (Some q) e h = absurd cc

  pub within : (r : Option (Bor ConfiguredPort)) → option_copied r ≡ port_numbered c p.source.0 → is_some r ≡ true → p.source.0 ≤ 524271
  within None e h = absurd cc
  within (Some q) e h = source_within q.now (sym e)

  map_itself : (agents : List Forwarder) → map (λ (a : Forwarder). a) agents ≡ agents
  map_itself [] = refl
  map_itself (a ∷ agents) = ap (λ (rest : List Forwarder). a ∷ rest) (map_itself agents)

  -- what is told of the lookups of a trace is what is told of the walk
  pub walked : (agents after : List Forwarder) (hops : List Hop) (steps : List ToldStep) → agents ≡ compiled_agents x → after ≡ agents
      → hops ≡ hops_of (map (λ (a : Forwarder). a) agents) p → steps ≡ told_steps x after p.destination.0 hops → steps ≡ told_walk x p
  walked agents after hops steps are same traced taken =
      let these : after ≡ compiled_agents x = same ∙ are in
      let those : hops ≡ hops_of (compiled_agents x) p = traced ∙ ap (λ (fs : List Forwarder). hops_of fs p) (map_itself agents ∙ are) in
      taken ∙ (λ i. told_steps x (these i) p.destination.0 (those i)) ∙ told_by_hops
