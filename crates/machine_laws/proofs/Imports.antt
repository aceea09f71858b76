-- What the instances of a valid configuration import.
use Rattle.policy_rules.specs.Standing.{PassesBetween}
use Rattle.std.specs.FinMap.{get}
use Rattle.std.specs.List.{Contains, filter_map, flat_map}
use Rattle.std.specs.Prelude.{IsTrue, List, cond, false, is_some, length, map, nat_le, true, ℕ, [], ◌%◌, ◌++◌, ◌+◌, ◌-◌, ◌/◌, ◌<◌, ◌∷◌, ◌≡◌, ◌≤◌, ◌⊎◌}
use Rattle.std.specs.declared.option.Option.TheVariants.{None, Some}
use Rattle.std.specs.declared.option.Option.{Option}
use Rattle.std.proofs.Common.{ap, arith, refl, subst, sym, ◌*◌, ◌∙◌}
use Rattle.std.proofs.lemmas.Bool.{leb-true, ltb-true}
use Rattle.std.proofs.lemmas.List.Elements.{Contains-append_left}
use Rattle.std.proofs.lemmas.List.Sorted.{Contains-permutation}
use Rattle.std.proofs.lemmas.Option.{same_Some}
use Rattle.ov_types.specs.Keys.{kind_of}
use Rattle.ov_types.specs.declared.numbers.InstanceId.{InstanceId}
use Rattle.ov_types.specs.declared.objects.LowKey.TheVariants as key
use Rattle.ov_types.specs.declared.objects.LowKey.{LowKey}
use Rattle.ov_types.specs.declared.objects.LowValue.TheVariants as low
use Rattle.ov_types.specs.declared.objects.LowValue.{LowValue}
use Rattle.route_targets.specs.Numbers.{hop_instance_of}
use Rattle.config_types.specs.Form.{has_config_form}
use Rattle.config_types.specs.declared.config.Network.{Network}
use Rattle.machine_model.specs.Setup.{Setup}
use Rattle.schedule_script.specs.ConfigCheck.Sentences.{IsValid}
use Rattle.transform_model.specs.IsObject.{AreImports, IsObject, of_left_circuit, of_network, of_networks, of_port, of_right_circuit, of_use}
use Rattle.transform_model.specs.IsUse.{IsUse}
use Rattle.transform_model.specs.Objects.{LowObject}
use Rattle.transform_model.specs.Objects.{acl_objects, circuit_objects, imports_of, instance_object, low_objects, port_object, use_object}
use Rattle.transform_model.specs.Objects.{objects as made_objects}
use Rattle.transform_model.specs.Uses.{ConfiguredUse as InEffect}
use Rattle.transform_model.specs.Uses.{uses as in_effect}
use Rattle.policy_rules.proofs.Lists.{is_mapped}
use Rattle.transform_model.proofs.LowKeys.{low_iff, low_kept}
use Rattle.transform_model.proofs.Objects.{one_numbered}
use Rattle.transform_model.proofs.Prefixes.{network_number}
use Rattle.node_laws.specs.NodeModel.Keys.{Low}
use Rattle.node_laws.specs.NodeModel.Maps.{Map, as_object, object, objects}
use Rattle.node_laws.specs.NodeModel.Members.{Member}
use Rattle.node_laws.specs.NodeModel.Uses.{IsImportedAt, Use, held_use, hop, hop_imports, imports, is_hop, is_known, is_place, network_imports, place_of, use_of}
use Rattle.node_laws.specs.NodeModel.Values.{Entry, Label, Object, Route, Value}
use Rattle.node_laws.proofs.NodeModel.Members.{none_some, contains_of, member_of}
use Rattle.node_laws.proofs.NodeModel.Objects.{ends, imports_hop, in_objects, object_of}
use Rattle.node_laws.proofs.NodeModel.Places.{is_hop-network, use_found}
use Rattle.node_laws.proofs.NodeModel.Spelled.{import_is}
use Rattle.node_laws.proofs.NodeModel.Unknown.{le_trans}
use Rattle.machine_model.specs.Setup.{low as low_map}
use Rattle.machine_laws.proofs.Objects.{held_is, held_of, is_held, is_object, object_at, object_is, used_few}

-- an instance is that of a network with what it imports, or a place of a use in effect
pub data Imported (x : Setup) (i n : InstanceId) : Type 0 where
  network_import : (a b : Network) → Contains x.config.networks a → Contains x.config.networks b → i ≡ a.id → n ≡ b.id → (a.name ≡ b.name) ⊎ PassesBetween x.config a b → Imported x i n
  hop_import : (u : InEffect) (j : ℕ) → IsUse x.config u → j ≤ length u.services → i ≡ hop_instance_of u.number j → IsImportedAt (held_of u) j n → Imported x i n

pub found_object : (m : Map) (k : LowKey) (w : LowValue) → object m k ≡ Some w → Member (object_at k w) (objects m)
found_object m k w h = go (get m (Low k)) refl h
  where
    go : (o : Option Value) → get m (Low k) ≡ o → as_object o ≡ Some w → Member (object_at k w) (objects m)
    go None e h = absurd (none_some w h)
    go (Some (Object u)) e h = in_objects m k w (e ∙ ap (λ (x : LowValue). Some (Object x)) (same_Some u w h))
    go (Some (Route r)) e h = absurd (none_some w h)
    go (Some (Entry r)) e h = absurd (none_some w h)
    go (Some (Label l)) e h = absurd (none_some w h)

abbrev kind_number : LowObject → ℕ
kind_number o = kind_of o.0

abbrev instance_number : LowKey → ℕ
instance_number (key.Instance n) = n
instance_number (key.Attach l) = 0
instance_number (key.Acl a b) = 0
instance_number (key.ChainUse u) = 0

-- what an instance object is
pub record IsNetworkObject (x : Setup) (i : ℕ) (w : LowValue) : Type 0 where
  pub home : Network
  pub list : List InstanceId
  pub has : Contains x.config.networks home
  pub are : AreImports x.config home list
  pub number : i ≡ home.id.0
  pub is : w ≡ low.Instance list

pub instance_by : (x : Setup) (i : ℕ) (w : LowValue) → IsObject x.topology x.config (object_at (key.Instance i) w) → IsNetworkObject x i w
instance_by x i w (of_network a list in_a are e) = record { home = a; list = list; has = in_a; are = are; number = ap (λ (o : LowObject). instance_number o.0) e; is = ap (λ (o : LowObject). o.1) e }
instance_by x i w (of_port n p d at e) = absurd (apart 0 (ap kind_number e))
  where
    apart : (n : ℕ) → 0 ≡ 1 + n → ⊥
    apart n e = omega (arith, e)
instance_by x i w (of_left_circuit u j k d used is at e) = absurd (apart 0 (ap kind_number e))
  where
    apart : (n : ℕ) → 0 ≡ 1 + n → ⊥
    apart n e = omega (arith, e)
instance_by x i w (of_right_circuit u j k d used is at e) = absurd (apart 0 (ap kind_number e))
  where
    apart : (n : ℕ) → 0 ≡ 1 + n → ⊥
    apart n e = omega (arith, e)
instance_by x i w (of_networks n m in_n in_m around e) = absurd (apart 1 (ap kind_number e))
  where
    apart : (n : ℕ) → 0 ≡ 1 + n → ⊥
    apart n e = omega (arith, e)
instance_by x i w (of_use u hops used zip e) = absurd (apart 2 (ap kind_number e))
  where
    apart : (n : ℕ) → 0 ≡ 1 + n → ⊥
    apart n e = omega (arith, e)

module _ (x : Setup) (form : IsTrue (has_config_form x.config)) (v : IsValid x.topology x.config) where
  abbrev feed : Map
  feed = low_map x

  -- the object of a network
  pub object_of_network : (a : Network) → Contains x.config.networks a → (list : List InstanceId) × AreImports x.config a list × (object feed (key.Instance a.id.0) ≡ Some (low.Instance list))
  object_of_network a in_a =
      let o : LowObject = instance_object x.config a in
      let made : Contains (made_objects x.topology x.config) o = Contains-append_left (map (instance_object x.config) x.config.networks) (rest_of x) o (is_mapped (instance_object x.config) x.config.networks a in_a) in
      let there : Contains (low_objects x.topology x.config) o = Contains-permutation (made_objects x.topology x.config) (low_objects x.topology x.config) o (low_kept x.topology x.config v form) made in
      let q = instance_by x a.id.0 (low.Instance (imports_of x.config a)) ((low_iff x.topology x.config o v form).0 there) in
      let same : a ≡ q.home = one_numbered x.topology x.config a q.home v in_a q.has (λ i. record { 0 = q.number i }) in
      let held : Member o (objects feed) = is_object x form v o ((low_iff x.topology x.config o v form).0 there) in (
        q.list,
        subst (λ (n : Network). AreImports x.config n q.list) (sym same) q.are,
        ap as_object (object_of feed (key.Instance a.id.0) (low.Instance (imports_of x.config a)) held) ∙ ap Some q.is,
      )
    where
      rest_of : (x : Setup) → List LowObject
      rest_of x = filter_map (port_object x.topology x.config) x.config.ports ++ (flat_map (circuit_objects x.topology) (in_effect x.config) ++ (flat_map (acl_objects x.config) x.config.networks ++ map (use_object x.topology) (in_effect x.config)))

  pub small : (a : Network) → Contains x.config.networks a → a.id.0 < 16384
  small a in_a = below a.id.0 (network_number x.config a form in_a)
    where
      below : (n : ℕ) → n ≤ 16383 → n < 16384
      below n h = omega (arith, h)

  pub network_known : (a : Network) → Contains x.config.networks a → is_known feed a.id ≡ true
  network_known a in_a =
      let q = object_of_network a in_a in
      ap (λ b. cond b (is_place (place_of a.id) (held_use feed a.id)) (is_some (object feed (key.Instance a.id.0)))) (is_hop-network a.id (small a in_a))
      ∙ ap is_some q.2

  pub network_in : (a b : Network) → Contains x.config.networks a → Contains x.config.networks b → (a.name ≡ b.name) ⊎ PassesBetween x.config a b → Member b.id (imports feed a.id)
  network_in a b in_a in_b h =
      let q = object_of_network a in_a in
      let there : Member b.id q.0 = member_of q.0 b.id ((q.1.exactly b in_b).1 h) in
      subst (Member b.id) (sym (ap (λ c. cond c (hop_imports (place_of a.id) (held_use feed a.id)) (network_imports (object feed (key.Instance a.id.0)))) (is_hop-network a.id (small a in_a)) ∙ ap network_imports q.2)) there

  -- a place of a held use
  pub hop_in : (u : InEffect) (j : ℕ) (n : InstanceId) → IsUse x.config u → j ≤ length u.services → IsImportedAt (held_of u) j n → Member n (imports feed (hop_instance_of u.number j))
  hop_in u j n used h i = (import_is feed (held_of u) j n (is_held x form v u used) (le_trans j (length u.services) 15 h (used_few x form v u used)) h).1 i

  -- what is imported
  from_network : (i n : InstanceId) (o : Option LowValue) → object feed (key.Instance i.0) ≡ o → Member n (network_imports o) → Imported x i n
  from_network i n None e m = absurd m
  from_network i n (Some w) e m =
      let q = instance_by x i.0 w (object_is x form v (object_at (key.Instance i.0) w) (found_object feed (key.Instance i.0) w e)) in
      let there : Member n q.list = subst (λ (w : LowValue). Member n (network_imports (Some w))) q.is m in
      let b = q.are.of_networks n (contains_of q.list n there) in
      let in_list : Contains q.list b.0.id = subst (Contains q.list) (sym b.2) (contains_of q.list n there) in
      network_import q.home b.0 q.has b.1 (λ k. record { 0 = q.number k }) (sym b.2) ((q.are.exactly b.0 b.1).0 in_list)

  from_hop : (i n : InstanceId) (o : Option Use) → held_use feed i ≡ o → is_hop i ≡ true → Member n (hop_imports (place_of i) o) → Imported x i n
  from_hop i n None e hop' m = absurd m
  from_hop i n (Some w) e hop' m =
      let f = use_found feed (use_of i) w e in
      let u = held_is x form v w f.0 in
      let j = place_of i in
      let at : i ≡ hop_instance_of w.number j = λ k. record { 0 = number i.0 w.number (ltb-true 16383 i.0 hop') f.1 k } in
      elim (nat_le j w.services) as (λ b. nat_le j w.services ≡ b → Member n (cond b (hop w j ∷ ends w j) []) → Imported x i n) [
        | true ↦ λ le m.
            let within = leb-true j w.services le in
            let whole : Member n (imports feed (hop w j)) = subst (Member n) (sym (imports_hop feed w j f.0 (low_place i.0) within)) m in
            hop_import u.effect j u.used (subst (λ (w : Use). j ≤ w.services) (sym u.is) within) (subst (λ (w : Use). i ≡ hop_instance_of w.number j) (sym u.is) at)
            (subst (λ (w : Use). IsImportedAt w j n) (sym u.is) ((import_is feed w j n f.0 (low_place i.0) within).0 whole))
        | false ↦ λ le m. absurd m
      ] refl m
    where
      number : (i u : ℕ) → 16383 < i → u ≡ (i - 16384) / 16 → i ≡ 16384 + 16 * u + (i - 16384) % 16
      number i u a e = omega arith

      low_place : (i : ℕ) → (i - 16384) % 16 ≤ 15
      low_place i = omega arith

  pub imported_is : (i n : InstanceId) → Member n (imports feed i) → Imported x i n
  imported_is i n m =
      elim (is_hop i) as (λ b. is_hop i ≡ b → Member n (cond b (hop_imports (place_of i) (held_use feed i)) (network_imports (object feed (key.Instance i.0)))) → Imported x i n) [
        | true ↦ λ e m. from_hop i n (held_use feed i) refl e m
        | false ↦ λ e m. from_network i n (object feed (key.Instance i.0)) refl m
      ] refl m
