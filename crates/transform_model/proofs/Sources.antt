-- Where a packet starts: at the agent of the port that has its source number.
use Rattle.std.proofs.Common.{◌≡◌, ◌≢◌, ◌+◌, ℕ, true, IsTrue, Option, Some, None, option_map, refl, sym, ap, ◌∙◌, subst, arith}
use Rattle.std.specs.List.{Contains}
use Rattle.std.proofs.lemmas.Bool.{eqb-true, eq-eqb}
use Rattle.std.proofs.lemmas.Option.{some_pair_parts}
use Rattle.ov_types.specs.First.{first_of}
use Rattle.ov_types.specs.declared.numbers.InstanceId.{InstanceId}
use Rattle.ov_types.specs.declared.numbers.Label.{Label}
use Rattle.ov_types.specs.declared.numbers.PortNo.{PortNo}
use Rattle.ov_types.specs.declared.objects.LowKey.TheVariants as Key
use Rattle.ov_types.specs.declared.objects.LowValue.{LowValue}
use Rattle.ov_types.specs.declared.objects.LowValue.TheVariants as Value
use Rattle.ov_types.specs.declared.packet.Packet.{Packet}
use Rattle.ov_types.specs.declared.prefix.Addr.{Addr}
use Rattle.ov_types.specs.declared.rows.Attached.{Attached}
use Rattle.ov_types.specs.declared.rows.Attached.TheVariants as Is
use Rattle.route_targets.specs.Forwarding.{Forwarder, attached, as_port, source_at}
use Rattle.route_targets.specs.Numbers.{port_label_of}
use Rattle.reach_plain.specs.ConfigTypes.Form.{has_config_form}
use Rattle.reach_plain.specs.ConfigTypes.Config.{Config}
use Rattle.reach_plain.specs.ConfigTypes.Network.{Network}
use Rattle.reach_plain.specs.ConfigTypes.Port.{Port}
use Rattle.reach_plain.specs.ConfigTypes.Node.{Node}
use Rattle.reach_plain.specs.ConfigTypes.Topology.{Topology}
use Rattle.reach_plain.specs.ConfigCheck.Sentences.{IsValid}
use Rattle.node_model.specs.Agent.{attached as listed}
use Rattle.node_model.specs.Wants.{is_at}
use Rattle.transform_model.specs.IsObject.{IsObject}
use Rattle.transform_model.specs.IsObject.IsObject.{of_network, of_port, of_left_circuit, of_right_circuit, of_networks, of_use}
use Rattle.transform_model.specs.IsRow.{IsPort}
use Rattle.transform_model.specs.Objects.{LowObject, low_objects, attached_port}
use Rattle.reach_plain.proofs.PolicyRules.Lists.{is_mapped, mapped_is}
use Rattle.transform_model.proofs.Agents.{forwarder, agents_of, label_leads, under_label}
use Rattle.transform_model.proofs.Held.{object_is, is_object, one_object}
use Rattle.transform_model.proofs.OneFound.{only_answer, no_answer}
use Rattle.transform_model.proofs.Valid.{one_node_at}

same_port : (a b : PortNo) → a.0 ≡ b.0 → a ≡ b
same_port a b e = ap (λ n. record { 0 = n }) e

-- an attachment of a port is that of a configured port, under its label
port_of_object : (t : Topology) (c : Config) (n : ℕ) (port : PortNo) (instance : InstanceId) (address node : Addr) → IsObject t c (Key.Attach n, Value.AttachPort port instance address node)
    → (q : Port) × Contains c.ports q × (n ≡ 16 + q.id.0)
port_of_object t c n port instance address node (of_network m is in_m imports at) = let never : Key.Attach n ≡ Key.Instance m.id.0 = ap (λ (o : LowObject). o.0) at in absurd cc
port_of_object t c n port instance address node (of_port m q d stands at) =
    let key : Key.Attach n ≡ Key.Attach (16 + q.id.0) = ap (λ (o : LowObject). o.0) at in
    let label : n ≡ 16 + q.id.0 = cc in
    (q, stands.has_port, label)
port_of_object t c n port instance address node (of_left_circuit u j k d is_u is_k at_k at) =
    let never : Value.AttachPort port instance address node ≡ Value.AttachCircuit k.number k.service.id d.address = ap (λ (o : LowObject). o.1) at in
    absurd cc
port_of_object t c n port instance address node (of_right_circuit u j k d is_u is_k at_k at) =
    let never : Value.AttachPort port instance address node ≡ Value.AttachCircuit k.number k.service.id d.address = ap (λ (o : LowObject). o.1) at in
    absurd cc
port_of_object t c n port instance address node (of_networks a b in_a in_b near at) = let never : Key.Attach n ≡ Key.Acl a.id.0 b.id.0 = ap (λ (o : LowObject). o.0) at in absurd cc
port_of_object t c n port instance address node (of_use u hops is_u are_hops at) = let never : Key.Attach n ≡ Key.ChainUse u.number = ap (λ (o : LowObject). o.0) at in absurd cc

-- what stands under a label as a port is the attachment of a port
port_listed : (n : ℕ) (w : LowValue) (label : Label) (port : PortNo) (instance : InstanceId) → listed (Key.Attach n) w ≡ Some (label, Is.Port port instance)
    → (q : PortNo) × (i : InstanceId) × (address : Addr) × (node : Addr) × (w ≡ Value.AttachPort q i address node)
port_listed n (Value.AttachPort q i address node) label port instance e = (q, i, address, node, refl)
port_listed n (Value.AttachCircuit circuit service node) label port instance e =
    let never : Is.Circuit circuit service ≡ Is.Port port instance = (some_pair_parts _ _ _ _ e).1 in
    absurd cc
port_listed n w label port instance e = absurd cc

module _ (t : Topology) (c : Config) (form : IsTrue (has_config_form c)) (v : IsValid t c) (p : Packet) where
  abbrev label_there : Label
  label_there = port_label_of p.source

  source_by : (g : Forwarder) (o : Option Attached) → attached g.rows label_there ≡ o → source_at p g ≡ option_map (λ network. (g, network)) (as_port o)
  source_by g o e = ap (λ (x : Option Attached). option_map (λ network. (g, network)) (as_port x)) e

  pub starts : (q : Port) (own : Network) (n : Node) → IsPort t c own q n → q.id ≡ p.source → first_of (source_at p) (agents_of t c) ≡ Some (forwarder t c n, own.id)
  starts q own n stands number =
      let value : LowValue = Value.AttachPort q.id own.id q.address n.address in
      let P : PortNo → Type 0 = λ x. Contains (low_objects t c) (Key.Attach (port_label_of x).0, value) in
      let object : Contains (low_objects t c) (Key.Attach label_there.0, value) = subst P number (is_object t c form v (attached_port q own n) (of_port own q n stands refl)) in
      let labelled : attached (forwarder t c n).rows label_there ≡ Some (Is.Port q.id own.id) =
      label_leads t c form v n.address label_there value (Is.Port q.id own.id) object (eq-eqb n.address.0 n.address.0 refl) refl in
      let gives : source_at p (forwarder t c n) ≡ Some (forwarder t c n, own.id) = source_by (forwarder t c n) (Some (Is.Port q.id own.id)) labelled in
      only_answer (source_at p) (agents_of t c) (forwarder t c n) (forwarder t c n, own.id) (is_mapped (forwarder t c) t.nodes n stands.has_node) gives (λ g y in_g answers.
      let from = mapped_is (forwarder t c) t.nodes g in_g in
      let m : Node = from.0 in
      let here : m ≡ n =
      elim (attached (forwarder t c m).rows label_there) as (λ o. attached (forwarder t c m).rows label_there ≡ o → m ≡ n) [
        | None ↦ λ e.
            let silent : source_at p (forwarder t c m) ≡ None = source_by (forwarder t c m) None e in
            let never : None ≡ Some y = sym silent ∙ ap (source_at p) from.2 ∙ answers in
            absurd cc
        | Some what ↦ λ e.
            let under = under_label t c form v m.address label_there what e in
            let one : (Key.Attach label_there.0, under.0) ≡ (Key.Attach label_there.0, value) =
            one_object t c (Key.Attach label_there.0, under.0) (Key.Attach label_there.0, value) under.1 object refl in
            let at : is_at m.address value ≡ true = sym (ap (λ (o : LowObject). is_at m.address o.1) one) ∙ under.2 in
            sym (one_node_at t c v n m stands.has_node from.1 (eqb-true n.address.0 m.address.0 at))
      ] refl in
      let both : Some y ≡ Some (forwarder t c n, own.id) = sym answers ∙ ap (source_at p) (sym from.2 ∙ ap (forwarder t c) here) ∙ gives in
      cc)

  -- what stands under the label is no port's where no port has the number
  silent : ((q : Port) → Contains c.ports q → q.id ≢ p.source) → (m : Node) (o : Option Attached) → attached (forwarder t c m).rows label_there ≡ o
      → source_at p (forwarder t c m) ≡ None
  silent none m None e = source_by (forwarder t c m) None e
  silent none m (Some (Is.Circuit circuit service)) e = source_by (forwarder t c m) (Some (Is.Circuit circuit service)) e
  silent none m (Some (Is.Port port instance)) e =
      let under = under_label t c form v m.address label_there (Is.Port port instance) e in
      let w = port_listed label_there.0 under.0 label_there port instance under.3 in
      let inside = subst (λ (x : LowValue). Contains (low_objects t c) (Key.Attach label_there.0, x)) w.4 under.1 in
      let q = port_of_object t c label_there.0 w.0 w.1 w.2 w.3 (object_is t c form v (Key.Attach label_there.0, Value.AttachPort w.0 w.1 w.2 w.3) inside) in
      let number : q.0.id.0 ≡ p.source.0 = omega (arith, q.2) in
      absurd (none q.0 q.1 (same_port q.0.id p.source number))

  pub starts_nowhere : ((q : Port) → Contains c.ports q → q.id ≢ p.source) → first_of (source_at p) (agents_of t c) ≡ None
  starts_nowhere none =
      no_answer (source_at p) (agents_of t c) (λ g in_g.
      let from = mapped_is (forwarder t c) t.nodes g in_g in
      sym (ap (source_at p) from.2) ∙ silent none from.0 (attached (forwarder t c from.0).rows label_there) refl)
