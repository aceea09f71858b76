-- Agents that have the labels and access lists that are compiled for their addresses, or no label, drop each packet that
-- policies refuse.
use Rattle.std.specs.Prelude.{◌≡◌, ◌⊎◌, true, IsTrue, ℕ, zero, suc, List, [], ◌∷◌, ◌++◌, ◌==◌, map, find, Option, Some, None, option_map}
use Rattle.std.specs.List.{Contains}
use Rattle.std.proofs.Common.{refl, sym, ◌∙◌, ap, subst, inl, inr}
use Rattle.std.proofs.lemmas.Bool.{eqb-true, eq-eqb}
use Rattle.std.proofs.lemmas.List.Elements.{All-contains}
use Rattle.ov_types.specs.Access.{verdict}
use Rattle.ov_types.specs.First.{first_of, ◌<|>◌}
use Rattle.ov_types.specs.declared.numbers.InstanceId.{InstanceId}
use Rattle.ov_types.specs.declared.numbers.Label.{Label}
use Rattle.ov_types.specs.declared.numbers.PortNo.{PortNo}
use Rattle.ov_types.specs.declared.numbers.ServiceNo.{ServiceNo}
use Rattle.ov_types.specs.declared.objects.LowKey.TheVariants as Key
use Rattle.ov_types.specs.declared.objects.LowValue.{LowValue}
use Rattle.ov_types.specs.declared.objects.LowValue.TheVariants as Value
use Rattle.ov_types.specs.declared.packet.Outcome.{Outcome}
use Rattle.ov_types.specs.declared.packet.Outcome.TheVariants.{Delivered, Dropped}
use Rattle.ov_types.specs.declared.packet.Packet.{Packet}
use Rattle.ov_types.specs.declared.packet.Why.{Why}
use Rattle.ov_types.specs.declared.packet.Why.TheVariants as Reason
use Rattle.ov_types.specs.declared.rows.Attached.{Attached}
use Rattle.ov_types.specs.declared.rows.Attached.TheVariants as Is
use Rattle.ov_types.specs.declared.rows.Entry.{Entry}
use Rattle.ov_types.specs.declared.verdict.Verdict.{Verdict}
use Rattle.ov_types.specs.declared.verdict.Verdict.TheVariants as Says
use Rattle.ov_types.proofs.FirstLemmas.{contains_here, contains_later, first_of_none, mapped_none}
use Rattle.route_targets.specs.Forwarding.{Forwarder, admitted, agent_at, as_port, attached, departed, followed, forwarding, handed, looked_up, source_at, visited, walk}
use Rattle.route_targets.specs.Numbers.{circuit_instance_of, other_side_of, port_label_of}
use Rattle.config_types.specs.Form.{has_config_form}
use Rattle.config_types.specs.declared.config.Config.{Config}
use Rattle.config_types.specs.declared.config.Network.{Network}
use Rattle.config_types.specs.declared.config.Port.{Port}
use Rattle.config_types.specs.declared.topology.Node.{Node}
use Rattle.config_types.specs.declared.topology.Topology.{Topology}
use Rattle.reach_plain.specs.ConfigCheck.Finding.{port_numbered}
use Rattle.reach_plain.specs.ConfigCheck.Rules.{first_broken}
use Rattle.reach_plain.specs.ConfigCheck.Sentences.{IsValid}
use Rattle.reach_plain.proofs.ConfigCheck.Validity.{valid_iff}
use Rattle.reach_plain.proofs.ConfigCheck.Finders.{finds_port_numbered}
use Rattle.reach_plain.proofs.Found.{own_exists}
use Rattle.reach_plain.proofs.PolicyRules.Lists.{is_mapped}
use Rattle.transform_model.specs.ReachPlain.Reachability.{reachability}
use Rattle.transform_model.specs.Compiled as compiled_rows
use Rattle.transform_model.specs.IsObject.IsObject.{of_port}
use Rattle.transform_model.specs.IsRow.{IsPort}
use Rattle.transform_model.specs.Objects.{LowObject, attached_port, low_objects}
use Rattle.transform_model.proofs.Agents.{agents_of, forwarder, label_leads, under_label}
use Rattle.transform_model.proofs.Held.{is_object, one_object}
use Rattle.transform_model.proofs.Law.{forwarding_is_reachability}
use Rattle.transform_model.proofs.OneFound.{no_answer}
use Rattle.transform_model.proofs.Sources.{starts, starts_nowhere}
use Rattle.transform_model.proofs.Valid.{node_of_port, one_node_at}
use Rattle.node_laws.specs.NodeModel.Wants.{is_at}
use Rattle.machine_moment_laws.specs.Revocation.{IsRefusal}

-- ---- a walk ends for no reason of policies
not_dropped : (why : Why) (port : PortNo) (services : List ServiceNo) → Delivered port services ≡ Dropped why → ⊥
not_dropped why port services e = cc

same_why : (a b : Why) → Dropped a ≡ Dropped b → a ≡ b
same_why a b e = cc

refused_never : (a b : Why) → (IsRefusal a → ⊥) → IsRefusal b → Dropped a ≡ Dropped b → ⊥
refused_never a b never is e = never (subst IsRefusal (sym (same_why a b e)) is)

module _ (agents : List Forwarder) (address : ℕ) (why : Why) (refusal : IsRefusal why) where
  -- what follows a lookup, where the rest of the walk does not end so
  abbrev GoesOn : (Forwarder → List ServiceNo → InstanceId → Outcome) → Type 0
  GoesOn again = (g : Forwarder) (services : List ServiceNo) (i : InstanceId) → again g services i ≡ Dropped why → ⊥

  module _ (again : Forwarder → List ServiceNo → InstanceId → Outcome) (goes : GoesOn again) (services : List ServiceNo) where
    visited_goes : (g : Forwarder) (o : Option Attached) → visited (again g) services o ≡ Dropped why → ⊥
    visited_goes g None e = refused_never Reason.NoLabel why (λ r. r) refusal e
    visited_goes g (Some (Is.Port port instance)) e = not_dropped why port services e
    visited_goes g (Some (Is.Circuit circuit service)) e = goes g (services ++ service ∷ []) (circuit_instance_of (other_side_of circuit)) e

    handed_goes : (label : Label) (o : Option Forwarder) → handed again services label o ≡ Dropped why → ⊥
    handed_goes label None e = refused_never Reason.NoLabel why (λ r. r) refusal e
    handed_goes label (Some g) e = visited_goes g (attached g.rows label) e

    followed_goes : (o : Option Entry) → followed again agents services o ≡ Dropped why → ⊥
    followed_goes None e = refused_never Reason.NoRoute why (λ r. r) refusal e
    followed_goes (Some entry) e = handed_goes entry.label (agent_at agents entry.next_hop) e

  walk_goes : (left : ℕ) (f : Forwarder) (services : List ServiceNo) (i : InstanceId) → walk agents address left f services i ≡ Dropped why → ⊥
  walk_goes zero f services i e = refused_never Reason.TtlExpired why (λ r. r) refusal e
  walk_goes (suc left) f services i e = followed_goes (walk agents address left) (λ g services i. walk_goes left g services i) services (looked_up f.rows i address) e

  -- so a packet that is refused is refused by the lists where it starts, and others would refuse it so
  refused_there : (others : List Forwarder) (f g : Forwarder) (network : InstanceId) (v : Verdict) → admitted agents address f network v ≡ Dropped why → admitted others address g network v ≡ Dropped why
  refused_there others f g network Says.Pass e = absurd (walk_goes 64 f [] network e)
  refused_there others f g network (Says.Enter instance) e = absurd (walk_goes 64 f [] instance e)
  refused_there others f g network (Says.Denied rule) e = e
  refused_there others f g network Says.NoDestination e = e

-- ---- where a packet starts
none_or_one : (f : Node → Option (Forwarder × InstanceId)) (P : Type 0) (y : Forwarder × InstanceId) → (ns : List Node) → ((n : Node) → Contains ns n → (f n ≡ None) ⊎ ((f n ≡ Some y) × P)) → (first_of f ns ≡ None) ⊎ ((first_of f ns ≡ Some y) × P)
none_or_one f P y [] h = inl refl
none_or_one f P y (n ∷ ns) h =
    let rest = none_or_one f P y ns (λ m i. h m (contains_later m n ns i)) in
    elim (h n (contains_here n ns)) as (λ _. ((f n <|> first_of f ns) ≡ None) ⊎ (((f n <|> first_of f ns) ≡ Some y) × P)) [
      | inl none ↦ elim rest as (λ _. ((f n <|> first_of f ns) ≡ None) ⊎ (((f n <|> first_of f ns) ≡ Some y) × P)) [
        | inl e ↦ inl (ap (λ (o : Option (Forwarder × InstanceId)). o <|> first_of f ns) none ∙ e)
        | inr e ↦ inr (ap (λ (o : Option (Forwarder × InstanceId)). o <|> first_of f ns) none ∙ e.0, e.1)
      ]
      | inr some ↦ inr (ap (λ (o : Option (Forwarder × InstanceId)). o <|> first_of f ns) some.0, some.1)
    ]

first_mapped : (p : Packet) (f : Node → Forwarder) (ns : List Node) → first_of (source_at p) (map f ns) ≡ first_of (λ n. source_at p (f n)) ns
first_mapped p f [] = refl
first_mapped p f (n ∷ ns) = ap (λ (o : Option (Forwarder × InstanceId)). source_at p (f n) <|> o) (first_mapped p f ns)

-- the network of a port, by what stands under its label
abbrev network_under : Label → List (Label × Attached) → Option InstanceId
network_under label labels = as_port (option_map (λ (e : Label × Attached). e.1) (find (λ (e : Label × Attached). e.0.0 == label.0) labels))

-- agents, one of each node: each has the labels and lists that are compiled for its address, or no label
module _ (t : Topology) (c : Config) (now : Node → Forwarder) where
  pub record IsPresent (n : Node) : Type 0 where
    pub labels : (now n).rows.labels ≡ (forwarder t c n).rows.labels
    pub acls : (now n).rows.acls ≡ (forwarder t c n).rows.acls

  abbrev pub ArePresent : Type 0
  ArePresent = (n : Node) → Contains t.nodes n → IsPresent n ⊎ ((now n).rows.labels ≡ [])

module _ (t : Topology) (c : Config) (form : IsTrue (has_config_form c)) (valid : first_broken t c ≡ None) (now : Node → Forwarder) (present : ArePresent t c now) (p : Packet) where
  v : IsValid t c
  v = (valid_iff t c).0 valid

  abbrev label : Label
  label = port_label_of p.source

  starts_by : (f : Forwarder) (o : Option InstanceId) → network_under label f.rows.labels ≡ o → source_at p f ≡ option_map (λ network. (f, network)) o
  starts_by f o e = ap (option_map (λ network. (f, network))) e

  unlabelled : (n : Node) → (now n).rows.labels ≡ [] → source_at p (now n) ≡ None
  unlabelled n e = starts_by (now n) None (ap (network_under label) e)

  same_network : (n : Node) → IsPresent t c now n → network_under label (now n).rows.labels ≡ network_under label (forwarder t c n).rows.labels
  same_network n is = ap (network_under label) is.labels

  -- ---- where no port has the number
  nowhere : ((q : Port) → Contains c.ports q → q.id ≡ p.source → ⊥) → first_of (source_at p) (map now t.nodes) ≡ None
  nowhere none =
      first_mapped p now t.nodes
      ∙ no_answer (λ (n : Node). source_at p (now n)) t.nodes (λ n inside. elim (present n inside) as (λ _. source_at p (now n) ≡ None) [
        | inl is ↦ starts_by (now n) None (same_network n is ∙ silent n inside)
        | inr e ↦ unlabelled n e
      ])
    where
      silent : (n : Node) → Contains t.nodes n → network_under label (forwarder t c n).rows.labels ≡ None
      silent n inside =
          let all = (first_of_none (source_at p) (agents_of t c)).0 (starts_nowhere t c form v p none) in
          (mapped_none (λ (network : InstanceId). (forwarder t c n, network)) (network_under label (forwarder t c n).rows.labels)).0
          (All-contains (λ g. source_at p g ≡ None) (agents_of t c) (forwarder t c n) all (is_mapped (forwarder t c) t.nodes n inside))

  -- ---- where one has
  module _ (q : Port) (own : Network) (home : Node) (stands : IsPort t c own q home) (number : q.id ≡ p.source) where
    abbrev value : LowValue
    value = Value.AttachPort q.id own.id q.address home.address

    abbrev ObjectUnder : PortNo → Type 0
    ObjectUnder port = Contains (low_objects t c) (Key.Attach (port_label_of port).0, value)

    object : Contains (low_objects t c) (Key.Attach label.0, value)
    object = subst ObjectUnder number (is_object t c form v (attached_port q own home) (of_port own q home stands refl))

    labelled : attached (forwarder t c home).rows label ≡ Some (Is.Port q.id own.id)
    labelled = label_leads t c form v home.address label value (Is.Port q.id own.id) object (eq-eqb home.address.0 home.address.0 refl) refl

    -- at its node alone
    only_home : (n : Node) → Contains t.nodes n → (what : Attached) → attached (forwarder t c n).rows label ≡ Some what → n ≡ home
    only_home n inside what e =
        let under = under_label t c form v n.address label what e in
        let one : (Key.Attach label.0, under.0) ≡ (Key.Attach label.0, value) =
        one_object t c (Key.Attach label.0, under.0) (Key.Attach label.0, value) under.1 object refl in
        let at : is_at n.address value ≡ true = sym (ap (λ (o : LowObject). is_at n.address o.1) one) ∙ under.2 in
        sym (one_node_at t c v home n stands.has_node inside (eqb-true home.address.0 n.address.0 at))

    abbrev StartsHere : Node → Type 0
    StartsHere n = (source_at p (now n) ≡ Some (now home, own.id)) × ((now home).rows.acls ≡ (forwarder t c home).rows.acls)

    starts_there : (n : Node) → IsPresent t c now n → n ≡ home → StartsHere n
    starts_there n is same =
        let there : IsPresent t c now home = subst (IsPresent t c now) same is in
        (ap (λ (n : Node). source_at p (now n)) same ∙ starts_by (now home) (Some own.id) (same_network home there ∙ ap as_port labelled), there.acls)

    here_or_not : (n : Node) → Contains t.nodes n → (source_at p (now n) ≡ None) ⊎ StartsHere n
    here_or_not n inside =
        elim (present n inside) as (λ _. (source_at p (now n) ≡ None) ⊎ StartsHere n) [
          | inl is ↦ elim (attached (forwarder t c n).rows label) as (λ o. attached (forwarder t c n).rows label ≡ o → (source_at p (now n) ≡ None) ⊎ StartsHere n) [
            | None ↦ λ e. inl (starts_by (now n) None (same_network n is ∙ ap as_port e))
            | Some what ↦ λ e. inr (starts_there n is (only_home n inside what e))
          ] refl
          | inr e ↦ inl (unlabelled n e)
        ]

    start : (first_of (source_at p) (map now t.nodes) ≡ None) ⊎ ((first_of (source_at p) (map now t.nodes) ≡ Some (now home, own.id)) × ((now home).rows.acls ≡ (forwarder t c home).rows.acls))
    start =
        elim (none_or_one (λ n. source_at p (now n)) ((now home).rows.acls ≡ (forwarder t c home).rows.acls) (now home, own.id) t.nodes here_or_not)
        as (λ _. (first_of (source_at p) (map now t.nodes) ≡ None) ⊎ ((first_of (source_at p) (map now t.nodes) ≡ Some (now home, own.id)) × ((now home).rows.acls ≡ (forwarder t c home).rows.acls))) [
          | inl e ↦ inl (first_mapped p now t.nodes ∙ e)
          | inr e ↦ inr (first_mapped p now t.nodes ∙ e.0, e.1)
        ]

    -- what the present configuration does there
    compiled_start : reachability c p ≡ admitted (agents_of t c) p.destination.0 (forwarder t c home) own.id (verdict (forwarder t c home).rows.acls own.id.0 p)
    unfolding forwarding compiled_rows.compiled_tables
    compiled_start =
        sym (forwarding_is_reachability (record { topology = t; config = c }) form valid p)
        ∙ ap (λ (fs : List Forwarder). forwarding fs p) (compiled_are t.nodes)
        ∙ ap (departed (agents_of t c) p) (starts t c form v p q own home stands number)
      where
        compiled_are : (ns : List Node) → compiled_rows.forwarders ns (map (λ (n : Node). compiled_rows.agent_rows t c n.address) ns) ≡ map (forwarder t c) ns
        compiled_are [] = refl
        compiled_are (n ∷ ns) = ap (λ (fs : List Forwarder). forwarder t c n ∷ fs) (compiled_are ns)

    refused : (why : Why) → IsRefusal why → reachability c p ≡ Dropped why → (forwarding (map now t.nodes) p ≡ Dropped why) ⊎ (forwarding (map now t.nodes) p ≡ Dropped Reason.NoSourcePort)
    unfolding forwarding
    refused why refusal e =
        elim start as (λ _. (departed (map now t.nodes) p (first_of (source_at p) (map now t.nodes)) ≡ Dropped why) ⊎ (departed (map now t.nodes) p (first_of (source_at p) (map now t.nodes)) ≡ Dropped Reason.NoSourcePort)) [
          | inl none ↦ inr (ap (departed (map now t.nodes) p) none)
          | inr at ↦ inl (
              ap (departed (map now t.nodes) p) at.0
              ∙ ap (λ (acls : List LowObject). admitted (map now t.nodes) p.destination.0 (now home) own.id (verdict acls own.id.0 p)) at.1
              ∙ refused_there (agents_of t c) p.destination.0 why refusal (map now t.nodes) (forwarder t c home) (now home) own.id (verdict (forwarder t c home).rows.acls own.id.0 p) (sym compiled_start ∙ e)
              )
        ]

  -- ---- any packet
  by_port : (why : Why) → IsRefusal why → reachability c p ≡ Dropped why → (o : Option Port) → port_numbered c p.source.0 ≡ o → (forwarding (map now t.nodes) p ≡ Dropped why) ⊎ (forwarding (map now t.nodes) p ≡ Dropped Reason.NoSourcePort)
  unfolding forwarding
  by_port why refusal e None is =
      let absent = (finds_port_numbered t c p.source.0 v).none.0 is in
      inr (ap (departed (map now t.nodes) p) (nowhere (λ q inside same. All-contains (λ (q : Port). q.id.0 ≡ p.source.0 → ⊥) c.ports q absent inside (ap (λ (k : PortNo). k.0) same))))
  by_port why refusal e (Some q) is =
      let f = ((finds_port_numbered t c p.source.0 v).some q).0 is in
      let own = own_exists t c q v f.0 in
      let node = node_of_port t c v q f.0 in
      let stands : IsPort t c own.0 q node.0 = record { has_home = own.1; has_port = f.0; has_node = node.1; home_of = sym own.2; node_of = node.2 } in
      refused q own.0 node.0 stands (ap (λ (k : ℕ). record { 0 = k }) f.1) why refusal e

  pub refused_is_dropped : (why : Why) → IsRefusal why → reachability c p ≡ Dropped why → (forwarding (map now t.nodes) p ≡ Dropped why) ⊎ (forwarding (map now t.nodes) p ≡ Dropped Reason.NoSourcePort)
  refused_is_dropped why refusal e = by_port why refusal e (port_numbered c p.source.0) refl
