-- The low-level objects of a valid configuration so far are of a configuration so far.
use Rattle.std.specs.List.{Contains}
use Rattle.std.specs.Prelude.{IsTrue, List, false, ℕ, ◌<◌, ◌≡◌, ◌≤◌}
use Rattle.std.proofs.Common.{arith, inl, inr, refl, subst, sym}
use Rattle.ov_types.specs.declared.numbers.InstanceId.{InstanceId}
use Rattle.config_types.specs.Form.{has_config_form}
use Rattle.config_types.specs.declared.config.Config.{Config}
use Rattle.config_types.specs.declared.config.Network.{Network}
use Rattle.schedule_script.specs.ConfigCheck.Sentences.{IsValid}
use Rattle.schedule_script.specs.Ties.{IsTiedBy, Ties}
use Rattle.transform_model.specs.IsObject.{IsHop, IsObject, of_left_circuit, of_network, of_networks, of_port, of_right_circuit, of_use}
use Rattle.transform_model.specs.Objects.{LowObject, low_objects}
use Rattle.transform_model.proofs.LowKeys.{low_is}
use Rattle.transform_model.proofs.Prefixes.{network_number}
use Rattle.node_laws.specs.NodeModel.Keys.{Key}
use Rattle.node_laws.specs.NodeModel.Members.{Member}
use Rattle.node_laws.specs.NodeModel.Uses.{is_hop}
use Rattle.node_laws.specs.NodeModel.Values.{Value}
use Rattle.node_laws.specs.NodeModel.Wants.{slice_entry}
use Rattle.node_laws.proofs.NodeModel.Members.{contains_of, from_map, member_get}
use Rattle.node_laws.proofs.NodeModel.Orders.{key_exact, key_total}
use Rattle.node_laws.proofs.NodeModel.Places.{is_hop-network}
use Rattle.machine_model.specs.Setup.{Setup, low as low_map}
use Rattle.machine_model.proofs.Feed.{entries-low}
use Rattle.machine_laws.proofs.Lists.{zip_length}
use Rattle.machine_laws.proofs.Told.{pair}
use Rattle.machine_moment_laws.proofs.SoFar.{AllStood, EntryStood, IsSoFar, ObjectStood}

pub network_is_no_hop : (c : Config) (n : Network) → IsTrue (has_config_form c) → Contains c.networks n → is_hop n.id ≡ false
network_is_no_hop c n form m = is_hop-network n.id (below n.id.0 (network_number c n form m))
  where
    below : (n : ℕ) → n ≤ 16383 → n < 16384
    below n h = omega (arith, h)

module _ (t : Ties) (cs : List Config) (x : Setup) (among : Member x.config cs) (form : IsTrue (has_config_form x.config)) (v : IsValid x.topology x.config) (tied : IsTiedBy t x.config) where
  abbrev Stood : LowObject → Type 0
  Stood o = ObjectStood t cs o.0 o.1

  here : IsSoFar t cs x.config
  here = record { among = among; topology = x.topology; form = form; valid = v; as_tied = tied }

  object_stood : (o : LowObject) → IsObject x.topology x.config o → Stood o
  object_stood o (of_network n imports in_n are e) =
      subst Stood (sym e) (λ m mem.
      let q = are.of_networks m (contains_of imports m mem) in
      subst (λ (m : InstanceId). is_hop m ≡ false) q.2 (network_is_no_hop x.config q.0 form q.1))
  object_stood o (of_port n p node at e) =
      subst Stood (sym e) (record { config = x.config; so_far = here; port = p; home = n; has_port = at.has_port; has_home = at.has_home; home_of = at.home_of; number = refl; prefix_is = refl; label_is = refl })
  object_stood o (of_left_circuit u j k node used side at e) =
      subst Stood (sym e) (refl, record { config = x.config; so_far = here; in_effect = u; is_use = used; place = j; item = k.service; there = side.service; number_is = refl; side = inl side.number })
  object_stood o (of_right_circuit u j k node used side at e) =
      subst Stood (sym e) (refl, record { config = x.config; so_far = here; in_effect = u; is_use = used; place = j; item = k.service; there = side.service; number_is = refl; side = inr side.number })
  object_stood o (of_networks a b in_a in_b related e) =
      subst Stood (sym e) (record { config = x.config; so_far = here; leaves = a; enters = b; has_leaves = in_a; has_enters = in_b; related = related; from_is = refl; to_is = refl; subnets_are = refl; rules_are = refl })
  object_stood o (of_use u hops used zip e) =
      subst Stood (sym e) (record { config = x.config; so_far = here; in_effect = u; is_use = used; number_is = refl; left_is = refl; right_is = refl; left_subnets_are = refl; right_subnets_are = refl; services_are = sym (zip_length (IsHop x.topology) u.services hops zip) })

  -- what the configuration node tells
  pub low_stood : (asn : ℕ) → AllStood t cs asn (low_map x)
  low_stood asn k w e =
      let m = subst (λ (es : List (Key × Value)). Member (pair k w) es) (entries-low x) (member_get key_total key_exact (low_map x) k w e) in
      let q = from_map slice_entry (pair k w) (low_objects x.topology x.config) m in
      subst (λ (e : Key × Value). EntryStood t cs asn e.0 e.1) q.2 (object_stood q.0 (low_is x.topology x.config q.0 v form (contains_of (low_objects x.topology x.config) q.0 q.1)))
