-- The low-level objects of a valid configuration that is as the ties have it are tied.
use Rattle.std.specs.List.{Contains}
use Rattle.std.specs.Prelude.{IsTrue, List, false, length, true, ℕ, ◌*◌, ◌+◌, ◌<◌, ◌≡◌, ◌≤◌}
use Rattle.std.proofs.Common.{ap, arith, inl, inr, refl, subst, sym, ◌∙◌}
use Rattle.std.proofs.lemmas.Bool.{true≢false}
use Rattle.ov_types.specs.First.{same_name}
use Rattle.ov_types.specs.declared.numbers.InstanceId.{InstanceId}
use Rattle.ov_types.proofs.FirstLemmas.{same_name_iff}
use Rattle.config_types.specs.Form.{has_config_form}
use Rattle.config_types.specs.declared.config.Network.{Network}
use Rattle.schedule_script.specs.ConfigCheck.Sentences.{IsValid}
use Rattle.policy_rules.specs.Standing.{AreRelated, LetsThrough}
use Rattle.transform_model.specs.IsObject.{IsObject, of_left_circuit, of_network, of_networks, of_port, of_right_circuit, of_use}
use Rattle.transform_model.specs.Objects.{LowObject, low_objects}
use Rattle.transform_model.proofs.Circuits.{left_instance, left_number, right_instance, right_number}
use Rattle.transform_model.proofs.InUse.{among_all, few_services, numbered}
use Rattle.transform_model.proofs.Lists.{place_within}
use Rattle.transform_model.proofs.LowKeys.{low_is}
use Rattle.transform_model.proofs.Objects.{one_named}
use Rattle.transform_model.proofs.Prefixes.{network_number, port_number}
use Rattle.node_laws.specs.NodeModel.Keys.{Key}
use Rattle.node_laws.specs.NodeModel.Members.{Member}
use Rattle.node_laws.specs.NodeModel.Uses.{is_hop}
use Rattle.node_laws.specs.NodeModel.Values.{Value}
use Rattle.node_laws.specs.NodeModel.Wants.{slice_entry}
use Rattle.node_laws.proofs.NodeModel.Members.{from_map, member_get}
use Rattle.node_laws.proofs.NodeModel.Orders.{key_exact, key_total}
use Rattle.node_laws.proofs.NodeModel.Places.{is_hop-network}
use Rattle.machine_model.specs.Setup.{Setup, low as low_map}
use Rattle.machine_model.proofs.Feed.{entries-low}
use Rattle.machine_laws.proofs.Told.{pair}
use Rattle.node_laws.proofs.NodeModel.Members.{contains_of}
use Rattle.config_types.specs.declared.config.Rule.{Rule}
use Rattle.transform_model.specs.IsUse.{IsUse}
use Rattle.transform_model.specs.Uses.{ConfiguredUse}
use Rattle.schedule_script.specs.Ties.{AreNear, HasUse, IsTiedBy, Ties}
use Rattle.machine_laws.specs.Tied.{AreTied, IsTied, IsTiedObject}
use Rattle.machine_laws.proofs.Circuits.{next_hop, other_of_left, other_of_right, sides_in}
use Rattle.machine_laws.proofs.Entered.{of_rules}

module _ (t : Ties) (x : Setup) (form : IsTrue (has_config_form x.config)) (v : IsValid x.topology x.config) (is : IsTiedBy t x.config) where
  related_here : (a b : Network) → Contains x.config.networks a → Contains x.config.networks b → AreRelated x.config a b → IsTrue (t.was_related a.id b.id)
  related_here a b in_a in_b r = is.related a.id b.id (record { first = a; second = b; has_first = in_a; has_second = in_b; related = r; first_is = refl; second_is = refl })

  near : (a b : Network) → Contains x.config.networks a → Contains x.config.networks b → ((a.name ≡ b.name → ⊥) → AreRelated x.config a b) → AreNear t a.id b.id
  near a b in_a in_b h =
      elim (same_name a.name b.name) as (λ s. same_name a.name b.name ≡ s → AreNear t a.id b.id) [
        | true ↦ λ e. inl (ap (λ (n : Network). n.id) (one_named x.topology x.config a b v in_a in_b ((same_name_iff a.name b.name).0 e)))
        | false ↦ λ e. inr (related_here a b in_a in_b (h (λ same. true≢false (sym ((same_name_iff a.name b.name).1 same) ∙ e))))
      ] refl

  is_network : (n : Network) → Contains x.config.networks n → is_hop n.id ≡ false
  is_network n m = is_hop-network n.id (below n.id.0 (network_number x.config n form m))
    where
      below : (n : ℕ) → n ≤ 16383 → n < 16384
      below n h = omega (arith, h)

  -- a use in effect is of a chain rule
  use_here : (u : ConfiguredUse) → IsUse x.config u → HasUse x.config u.number (u.left.id, u.right.id)
  use_here u used =
      let n = numbered used.policy used.rule used.has_rule in
      record {
        rule = n.0;
        chain = used.chain;
        left = u.left;
        right = u.right;
        has_rule = among_all x.config used.policy n.0 used.has_policy n.1;
        has_left = used.has_left;
        has_right = used.has_right;
        leads = ap (λ (r : Rule). r.action) n.2 ∙ used.leads;
        from = ap (λ (r : Rule). r.source) n.2 ∙ used.from;
        to = ap (λ (r : Rule). r.destination) n.2 ∙ used.to;
        left_is = refl;
        right_is = refl;
      }

  -- ---- each object
  tied_object : (o : LowObject) → IsObject x.topology x.config o → IsTiedObject t o.0 o.1
  tied_object o (of_network n imports in_n are e) =
      subst (λ (o : LowObject). IsTiedObject t o.0 o.1) (sym e) (λ m mem.
      let inside = contains_of imports m mem in
      let q = are.of_networks m inside in
      subst (λ (m : InstanceId). (is_hop m ≡ false) × AreNear t n.id m) q.2 (
        is_network q.0 q.1,
        near n q.0 in_n q.1 (λ differ. elim ((are.exactly q.0 q.1).0 (subst (Contains imports) (sym q.2) inside)) as (λ _. AreRelated x.config n q.0) [
          | inl same ↦ absurd (differ same)
          | inr pass ↦ record { differ = differ; rule = pass.rule; stands = pass.stands; lets = subst LetsThrough (sym pass.pass) tt }
        ]),
      ))
  tied_object o (of_port n p node at e) =
      subst (λ (o : LowObject). IsTiedObject t o.0 o.1) (sym e) (refl, port_number x.config p form at.has_port, is_network n at.has_home, is.ports p.id n.id (record { port = p; home = n; has_port = at.has_port; has_home = at.has_home; home_of = at.home_of; number_is = refl; network_is = refl }))
  tied_object o (of_left_circuit u j k node used side at e) =
      let few : j + 1 ≤ 15 = before j (length u.services) (place_within u.services j k.service side.service) (few_services x.topology x.config u v used) in
      subst (λ (o : LowObject). IsTiedObject t o.0 o.1) (sym e)
      (let s = sides_in u.number j (j + 1) k.number (lower j few) few (left_instance u j k side) (other_of_left (16384 + 16 * u.number + j) k.number (left_number u j k side) ∙ next_hop u.number j) in (refl, s.0, s.1))
    where
      before : (j n : ℕ) → j < n → n ≤ 15 → j + 1 ≤ 15
      before j n h m = omega (arith, h, m)

      lower : (j : ℕ) → j + 1 ≤ 15 → j ≤ 15
      lower j h = omega (arith, h)
  tied_object o (of_right_circuit u j k node used side at e) =
      let few : j + 1 ≤ 15 = before j (length u.services) (place_within u.services j k.service side.service) (few_services x.topology x.config u v used) in
      subst (λ (o : LowObject). IsTiedObject t o.0 o.1) (sym e)
      (let s = sides_in u.number (j + 1) j k.number few (lower j few) (right_instance u j k side) (other_of_right (16384 + 16 * u.number + j) k.number (right_number u j k side ∙ apart u.number j)) in (refl, s.0, s.1))
    where
      before : (j n : ℕ) → j < n → n ≤ 15 → j + 1 ≤ 15
      before j n h m = omega (arith, h, m)

      lower : (j : ℕ) → j + 1 ≤ 15 → j ≤ 15
      lower j h = omega (arith, h)

      apart : (u j : ℕ) → 2 * (16384 + 16 * u + (j + 1)) ≡ 2 * (16384 + 16 * u + j + 1)
      apart u j = omega arith
  tied_object o (of_networks a b in_a in_b related e) =
      subst (λ (o : LowObject). IsTiedObject t o.0 o.1) (sym e)
      (elim related as (λ _. AreNear t a.id b.id) [ inl same ↦ inl (ap (λ (n : Network). n.id) same) | inr r ↦ inr (related_here a b in_a in_b r) ], λ r i m act. of_rules t x form v is a b r i in_a in_b m act)
  tied_object o (of_use u hops used zip e) =
      subst (λ (o : LowObject). IsTiedObject t o.0 o.1) (sym e) (
        is_network u.left used.has_left,
        is_network u.right used.has_right,
        is.uses u.number (u.left.id, u.right.id) (use_here u used),
      )

  -- what the configuration node tells
  pub low_tied : (asn : ℕ) → AreTied t asn (low_map x)
  low_tied asn k w e =
      let m = subst (λ (es : List (Key × Value)). Member (pair k w) es) (entries-low x) (member_get key_total key_exact (low_map x) k w e) in
      let q = from_map slice_entry (pair k w) (low_objects x.topology x.config) m in
      subst (λ (e : Key × Value). IsTied t asn e.0 e.1) q.2 (tied_object q.0 (low_is x.topology x.config q.0 v form (contains_of (low_objects x.topology x.config) q.0 q.1)))
