-- The way of a packet through the services that are left of a chain, and the walk along it.
use Rattle.std.proofs.Common.{◌≡◌, ◌<◌, ◌++◌, ◌&&◌, ℕ, zero, suc, Bool, true, false, IsTrue, List, [], ◌∷◌, Option, Some, None, find, map, length, refl, sym, ap, ◌∙◌, subst, append_assoc, arith, inl, inr, ◌⊎◌}
use Rattle.std.specs.List.{Contains}
use Rattle.std.proofs.lemmas.Bool.{and_parts, eq-eqb, and_from}
use Rattle.std.proofs.lemmas.List.{append-nil}
use Rattle.std.proofs.lemmas.List.Elements.{All-contains}
use Rattle.ov_types.specs.First.{same_name}
use Rattle.ov_types.specs.Prefix.{Block, contains}
use Rattle.ov_types.specs.declared.numbers.InstanceId.{InstanceId}
use Rattle.ov_types.specs.declared.numbers.ServiceNo.{ServiceNo}
use Rattle.ov_types.specs.declared.objects.LowValue.TheVariants as Value
use Rattle.ov_types.specs.declared.packet.Outcome.{Outcome}
use Rattle.ov_types.specs.declared.packet.Outcome.TheVariants.{Dropped}
use Rattle.ov_types.specs.declared.packet.Why.TheVariants.{NoRoute}
use Rattle.ov_types.specs.declared.rows.Attached.{Attached}
use Rattle.ov_types.specs.declared.rows.Attached.TheVariants as Is
use Rattle.ov_types.specs.declared.rows.Entry.{Entry}
use Rattle.ov_types.proofs.FirstLemmas.{same_name_iff, found_is, find_none}
use Rattle.route_targets.specs.Forwarding.{Forwarder, agent_at, attached, looked_up, visited, handed, followed, walk}
use Rattle.route_targets.specs.Numbers.{port_label_of, circuit_label_of, circuit_instance_of, other_side_of}
use Rattle.reach_plain.specs.ConfigTypes.Form.{has_config_form}
use Rattle.reach_plain.specs.ConfigTypes.Config.{Config}
use Rattle.reach_plain.specs.ConfigTypes.Network.{Network}
use Rattle.reach_plain.specs.ConfigTypes.Port.{Port}
use Rattle.reach_plain.specs.ConfigTypes.Service.{Service}
use Rattle.reach_plain.specs.ConfigTypes.Node.{Node}
use Rattle.reach_plain.specs.ConfigTypes.Topology.{Topology}
use Rattle.reach_plain.specs.ConfigCheck.Finding.{port_at}
use Rattle.reach_plain.specs.ConfigCheck.Sentences.{IsValid}
use Rattle.reach_plain.proofs.ConfigCheck.Finders.{finds_port_at}
use Rattle.reach_plain.specs.Reachability.{arrival_at}
use Rattle.transform_model.specs.IsObject.IsObject.{of_port}
use Rattle.transform_model.specs.IsRow.{IsRow, IsPort, IsCircuitAt, HoldsPort}
use Rattle.transform_model.specs.Objects.{low_objects, attached_port, attached_circuit}
use Rattle.transform_model.specs.Tables.{Row, host_route, circuit_route, holds_port}
use Rattle.transform_model.specs.Uses.{Circuit}
use Rattle.transform_model.proofs.Agents.{forwarder, agents_of, Needs, hop_of_row, label_leads, lookup_leads, lookup_fails, agent_is}
use Rattle.transform_model.proofs.Held.{is_object}
use Rattle.transform_model.proofs.Blocks.{host_is, host_holds, one_subnet}
use Rattle.transform_model.proofs.OneFound.{in_any, of_any}
use Rattle.transform_model.proofs.Valid.{one_node, one_port_at, node_of_port, holds_port_address}

-- a row is the route to a port of a network
pub record IsHost (t : Topology) (c : Config) (far : Network) (i : InstanceId) (r : Row) : Type 0 where
  pub port : Port
  pub node : Node
  pub stands : IsPort t c far port node
  pub is : r ≡ host_route i far node port

-- in an instance an address is led to the ports of a network alone
pub record Arrives (t : Topology) (c : Config) (far : Network) (d : ℕ) (i : InstanceId) : Type 0 where
  pub hosts : (r : Row) → IsRow t c i r → contains r.0.1 d ≡ true → IsHost t c far i r
  pub leads : (port : Port) (node : Node) → IsPort t c far port node → IsRow t c i (host_route i far node port)

-- a row leads a subnet of a network towards a circuit
pub record IsTowards (t : Topology) (c : Config) (far : Network) (i : InstanceId) (k : Circuit) (r : Row) : Type 0 where
  pub prefix : Block
  pub node : Node
  pub held : HoldsPort c far prefix
  pub at : IsCircuitAt t k node
  pub is : r ≡ circuit_route i prefix k node

-- in an instance an address is led to a circuit alone, whose agent has the circuit and the instance of its other side
pub record LeadsOn (t : Topology) (c : Config) (far : Network) (d : ℕ) (i : InstanceId) (k : Circuit) : Type 0 where
  pub circuits : (r : Row) → IsRow t c i r → contains r.0.1 d ≡ true → IsTowards t c far i k r
  pub leads : (prefix : Block) (node : Node) → HoldsPort c far prefix → IsCircuitAt t k node → IsRow t c i (circuit_route i prefix k node)
  pub node : Node
  pub at : IsCircuitAt t k node
  pub attaches : Contains (low_objects t c) (attached_circuit k node)
  pub needs : Needs t c node.address (circuit_instance_of (other_side_of k.number))

-- from an instance an address is led through these services to the ports of a network
abbrev pub Way : Topology → Config → Network → ℕ → InstanceId → List Service → Type 0
Way t c far d i [] = Arrives t c far d i
Way t c far d i (s ∷ rest) =
    (k : Circuit) × (k.service ≡ s) × LeadsOn t c far d i k × Way t c far d (circuit_instance_of (other_side_of k.number)) rest

-- ---- one step

leads_to : (again : Forwarder → List ServiceNo → InstanceId → Outcome) (agents : List Forwarder) (services : List ServiceNo) (o : Option Entry) (e : Entry) (g : Forwarder) (what : Attached)
    → o ≡ Some e → agent_at agents e.next_hop ≡ Some g → attached g.rows e.label ≡ Some what → followed again agents services o ≡ visited (again g) services (Some what)
leads_to again agents services o e g what p q r =
    ap (followed again agents services) p ∙ ap (handed again services e.label) q ∙ ap (visited (again g) services) r

-- a subnet of a network that holds a port contains an address, or none does
aimed : (c : Config) (n : Network) (d : ℕ) → ((prefix : Block) × HoldsPort c n prefix × (contains prefix d ≡ true)) ⊎ ((prefix : Block) → HoldsPort c n prefix → contains prefix d ≡ true → ⊥)
aimed c n d =
    let test : Block → Bool = λ s. contains s d && holds_port c n s in
    let of_port : Block → Port → Bool = λ s p. same_name p.network n.name && contains s p.address.0 in
    elim (find test n.subnets) as (λ o. find test n.subnets ≡ o → ((prefix : Block) × HoldsPort c n prefix × (contains prefix d ≡ true)) ⊎ ((prefix : Block) → HoldsPort c n prefix → contains prefix d ≡ true → ⊥)) [
      | None ↦ λ e. inr (λ prefix held hit.
          let port_passes : of_port prefix held.port ≡ true = and_from (same_name held.port.network n.name) (contains prefix held.port.address.0) ((same_name_iff held.port.network n.name).1 held.home_of) held.holds in
          let passes : test prefix ≡ true = and_from (contains prefix d) (holds_port c n prefix) hit (in_any (of_port prefix) c.ports held.port held.has_port port_passes) in
          let fails : test prefix ≡ false = All-contains (λ (s : Block). test s ≡ false) n.subnets prefix ((find_none test n.subnets).0 e) held.has_subnet in
          let never : true ≡ false = sym passes ∙ fails in
          cc)
      | Some prefix ↦ λ e.
          let found = found_is test n.subnets prefix e in
          let parts = and_parts (contains prefix d) (holds_port c n prefix) found.0 in
          let some = of_any (of_port prefix) c.ports parts.1 in
          let of_some = and_parts (same_name some.0.network n.name) (contains prefix some.0.address.0) some.2 in
          inl (
            prefix,
            record { port = some.0; has_subnet = found.1; has_port = some.1; home_of = (same_name_iff some.0.network n.name).0 of_some.0; holds = of_some.1 },
            parts.0,
          )
    ] refl

module _ (t : Topology) (c : Config) (form : IsTrue (has_config_form c)) (v : IsValid t c) (far : Network) (in_far : Contains c.networks far) (d : ℕ) where
  -- ---- at the end of the way

  found_port : (q : Port) → port_at c far d ≡ Some q → Contains c.ports q × (q.network ≡ far.name) × (q.address.0 ≡ d)
  found_port q e = let f = ((finds_port_at t c far d v).some q).0 e in (f.0, f.1.0, f.1.1)

  one_host : (i : InstanceId) (q : Port) (node : Node) (r : Row) → IsPort t c far q node → q.address.0 ≡ d → contains r.0.1 d ≡ true → IsHost t c far i r → r ≡ host_route i far node q
  one_host i q node r stands at hit is =
      let there : is.port.address.0 ≡ d = host_is is.port.address.0 d (subst (λ (x : Row). contains x.0.1 d ≡ true) is.is hit) in
      let ports : is.port ≡ q = one_port_at t c v is.port q is.stands.has_port stands.has_port (is.stands.home_of ∙ sym stands.home_of) (there ∙ sym at) in
      let nodes : is.node ≡ node = one_node t c v is.node node is.stands.has_node stands.has_node (is.stands.node_of ∙ ap (λ (p : Port). p.node) ports ∙ sym stands.node_of) in
      is.is ∙ ap (λ (p : Port). host_route i far is.node p) ports ∙ ap (λ (n : Node). host_route i far n q) nodes

  arrives : (n : Node) (i : InstanceId) (left : ℕ) (before : List ServiceNo) → Needs t c n.address i → Arrives t c far d i
      → walk (agents_of t c) d (suc left) (forwarder t c n) before i ≡ arrival_at (port_at c far d) before
  arrives n i left before needs way =
      let again : Forwarder → List ServiceNo → InstanceId → Outcome = walk (agents_of t c) d left in
      elim (port_at c far d) as (λ o. port_at c far d ≡ o → followed again (agents_of t c) before (looked_up (forwarder t c n).rows i d) ≡ arrival_at o before) [
        | None ↦ λ e.
            let nothing : looked_up (forwarder t c n).rows i d ≡ None =
            lookup_fails t c form v n.address i d (λ r is hit.
            let host = way.hosts r is hit in
            let there : host.port.address.0 ≡ d = host_is host.port.address.0 d (subst (λ (x : Row). contains x.0.1 d ≡ true) host.is hit) in
            let absent = (finds_port_at t c far d v).none.0 e in
            All-contains (λ (p : Port). ¬ ((p.network ≡ far.name) × (p.address.0 ≡ d))) c.ports host.port absent host.stands.has_port (host.stands.home_of, there)) in
            ap (followed again (agents_of t c) before) nothing
        | Some q ↦ λ e.
            let found = found_port q e in
            let at = node_of_port t c v q found.0 in
            let node : Node = at.0 in
            let stands : IsPort t c far q node = record { has_home = in_far; has_port = found.0; has_node = at.1; home_of = found.1; node_of = at.2 } in
            let r : Row = host_route i far node q in
            let leads : looked_up (forwarder t c n).rows i d ≡ Some (hop_of_row r) =
            lookup_leads t c form v n.address i d r needs (way.leads q node stands) (host_holds q.address.0 d found.2)
            (λ s is hit. one_host i q node s stands found.2 hit (way.hosts s is hit)) in
            let object = is_object t c form v (attached_port q far node) (of_port far q node stands refl) in
            let labelled : attached (forwarder t c node).rows (port_label_of q.id) ≡ Some (Is.Port q.id far.id) =
            label_leads t c form v node.address (port_label_of q.id) (Value.AttachPort q.id far.id q.address node.address) (Is.Port q.id far.id) object (eq-eqb node.address.0 node.address.0 refl) refl in
            leads_to again (agents_of t c) before (looked_up (forwarder t c n).rows i d) (hop_of_row r) (forwarder t c node) (Is.Port q.id far.id) leads (agent_is t c v node at.1) labelled
      ] refl

  -- ---- at a service

  no_port : ((prefix : Block) → HoldsPort c far prefix → contains prefix d ≡ true → ⊥) → port_at c far d ≡ None
  no_port none =
      elim (port_at c far d) as (λ o. port_at c far d ≡ o → o ≡ None) [
        | None ↦ λ e. refl
        | Some q ↦ λ e.
            let found = found_port q e in
            let held = holds_port_address t c v far q in_far found.0 found.1 in
            absurd (none held.1 (record { port = q; has_subnet = (held.0, held.2, held.3); has_port = found.0; home_of = found.1; holds = held.4 })
            (subst (λ (x : ℕ). contains held.1 x ≡ true) found.2 held.4))
      ] refl

  one_towards : (i : InstanceId) (k : Circuit) (prefix : Block) (node : Node) (r : Row) → HoldsPort c far prefix → IsCircuitAt t k node → contains prefix d ≡ true
      → contains r.0.1 d ≡ true → IsTowards t c far i k r → r ≡ circuit_route i prefix k node
  one_towards i k prefix node r held at hit hits is =
      let there : contains is.prefix d ≡ true = subst (λ (x : Row). contains x.0.1 d ≡ true) is.is hits in
      let prefixes : is.prefix ≡ prefix = one_subnet t c form v far is.prefix prefix d in_far is.held.has_subnet held.has_subnet there hit in
      let nodes : is.node ≡ node = one_node t c v is.node node is.at.has_node at.has_node (is.at.node_of ∙ sym at.node_of) in
      is.is ∙ ap (λ (p : Block). circuit_route i p k is.node) prefixes ∙ ap (λ (n : Node). circuit_route i prefix k n) nodes

  -- the circuit that the walk comes to, where the address is in a subnet that holds a port
  on_to : (n : Node) (i : InstanceId) (k : Circuit) (left : ℕ) (before : List ServiceNo) (prefix : Block) → Needs t c n.address i → (on : LeadsOn t c far d i k) → HoldsPort c far prefix → contains prefix d ≡ true
      → walk (agents_of t c) d (suc left) (forwarder t c n) before i
      ≡ walk (agents_of t c) d left (forwarder t c on.node) (before ++ k.service.id ∷ []) (circuit_instance_of (other_side_of k.number))
  on_to n i k left before prefix needs on held hit =
      let again : Forwarder → List ServiceNo → InstanceId → Outcome = walk (agents_of t c) d left in
      let r : Row = circuit_route i prefix k on.node in
      let leads : looked_up (forwarder t c n).rows i d ≡ Some (hop_of_row r) =
      lookup_leads t c form v n.address i d r needs (on.leads prefix on.node held on.at) hit
      (λ s is hits. one_towards i k prefix on.node s held on.at hit hits (on.circuits s is hits)) in
      let labelled : attached (forwarder t c on.node).rows (circuit_label_of k.number) ≡ Some (Is.Circuit k.number k.service.id) =
      label_leads t c form v on.node.address (circuit_label_of k.number) (Value.AttachCircuit k.number k.service.id on.node.address) (Is.Circuit k.number k.service.id) on.attaches
      (eq-eqb on.node.address.0 on.node.address.0 refl) refl in
      leads_to again (agents_of t c) before (looked_up (forwarder t c n).rows i d) (hop_of_row r) (forwarder t c on.node) (Is.Circuit k.number k.service.id) leads (agent_is t c v on.node on.at.has_node) labelled

  stops : (n : Node) (i : InstanceId) (k : Circuit) (left : ℕ) (before : List ServiceNo) → LeadsOn t c far d i k → ((prefix : Block) → HoldsPort c far prefix → contains prefix d ≡ true → ⊥)
      → walk (agents_of t c) d (suc left) (forwarder t c n) before i ≡ Dropped NoRoute
  stops n i k left before on none =
      let again : Forwarder → List ServiceNo → InstanceId → Outcome = walk (agents_of t c) d left in
      let nothing : looked_up (forwarder t c n).rows i d ≡ None =
      lookup_fails t c form v n.address i d (λ r is hit.
      let towards = on.circuits r is hit in
      none towards.prefix towards.held (subst (λ (x : Row). contains x.0.1 d ≡ true) towards.is hit)) in
      ap (followed again (agents_of t c) before) nothing

  -- ---- the whole way
  -- it visits each service once and in order, with one lookup more than services
  pub walk_way : (n : Node) (i : InstanceId) (rest : List Service) (left : ℕ) (before : List ServiceNo) → Needs t c n.address i → length rest < left → Way t c far d i rest
      → walk (agents_of t c) d left (forwarder t c n) before i ≡ arrival_at (port_at c far d) (before ++ map (λ s. s.id) rest)
  walk_way n i rest zero before needs few way = absurd (omega arith)
  walk_way n i [] (suc left) before needs few way =
      arrives n i left before needs way ∙ ap (arrival_at (port_at c far d)) (sym (append-nil before))
  walk_way n i (s ∷ rest) (suc left) before needs few way =
      let k : Circuit = way.0 in
      let on = way.2 in
      let goal : List ServiceNo = before ++ map (λ (s : Service). s.id) (s ∷ rest) in
      elim (aimed c far d) [
        | inl hit ↦
            let passed : (before ++ k.service.id ∷ []) ++ map (λ (s : Service). s.id) rest ≡ goal =
            append_assoc before (k.service.id ∷ []) (map (λ (s : Service). s.id) rest) ∙ ap (λ (x : Service). before ++ (x.id ∷ map (λ (s : Service). s.id) rest)) way.1 in
            on_to n i k left before hit.0 needs on hit.1 hit.2
            ∙ walk_way on.node (circuit_instance_of (other_side_of k.number)) rest left (before ++ k.service.id ∷ []) on.needs (omega arith) way.3
            ∙ ap (arrival_at (port_at c far d)) passed
        | inr none ↦ stops n i k left before on none ∙ sym (ap (λ (o : Option Port). arrival_at o goal) (no_port none))
      ]
