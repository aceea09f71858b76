-- A known instance is among the known instances.
use Rattle.std.specs.Prelude.{◌≡◌, ℕ, ◌+◌, ◌*◌, ◌-◌, ◌/◌, ◌%◌, ◌<◌, ◌≤◌, List, [], ◌∷◌, ◌++◌, map, true, false, cond, is_some, nat_lt, ◌==◌}
use Rattle.std.specs.declared.option.Option.{Option}
use Rattle.std.specs.declared.option.Option.TheVariants.{Some, None}
use Rattle.std.specs.List.{filter_map, flat_map}
use Rattle.std.specs.FinMap.{get}
use Rattle.std.proofs.lemmas.Bool.{true≢false, leb-true}
use Rattle.std.proofs.lemmas.Option.{same_Some}
use Rattle.std.proofs.Common.{refl, sym, ap, subst, inl, arith}
use Rattle.ov_types.specs.declared.numbers.InstanceId.{InstanceId}
use Rattle.ov_types.specs.declared.objects.LowKey.{LowKey}
use Rattle.ov_types.specs.declared.objects.LowKey.TheVariants as key
use Rattle.ov_types.specs.declared.objects.LowValue.{LowValue}
use Rattle.node_model.specs.Members.{Member}
use Rattle.node_model.specs.Keys.{Low}
use Rattle.node_model.specs.Values.{Value, Object, Route, Entry, Label}
use Rattle.node_model.specs.Maps.{Map, as_object, object, objects}
use Rattle.node_model.specs.Uses.{Use, uses, hop, is_hop, use_of, place_of, held_use, is_place, is_known}
use Rattle.node_model.specs.Reaching.{below}
use Rattle.node_model.specs.Tables.{known_instances, network_of}
use Rattle.node_model.proofs.Members.{in_filter_map, in_flat_map, in_left, in_map, in_right, none_some}
use Rattle.node_model.proofs.Objects.{in_objects}
use Rattle.node_model.proofs.Places.{use_found}
use Rattle.node_model.proofs.Routes.{in_below}

pub in_places : (k j : ℕ) → j ≤ k → Member j (below k ++ k ∷ [])
in_places k j h =
    elim (j == k) as (λ b. (j == k) ≡ b → Member j (below k ++ k ∷ [])) [
      | true ↦ λ e. in_right j (below k) (k ∷ []) (inl (sym (same j k e)))
      | false ↦ λ e. in_left j (below k) (k ∷ []) (in_below k j (less j k h e))
    ] refl
  where
    same : (j k : ℕ) → (j == k) ≡ true → j ≡ k
    same j k e = grind arith

    less : (j k : ℕ) → j ≤ k → (j == k) ≡ false → j < k
    less j k h e = grind arith

held_object : (o : Option Value) (v : LowValue) → as_object o ≡ Some v → o ≡ Some (Object v)
held_object (Some (Object w)) v e = ap (λ (x : LowValue). Some (Object x)) (same_Some w v e)
held_object (Some (Route r)) v e = absurd (none_some v e)
held_object (Some (Entry r)) v e = absurd (none_some v e)
held_object (Some (Label l)) v e = absurd (none_some v e)
held_object None v e = absurd (none_some v e)

abbrev named : LowKey → LowValue → LowKey × LowValue
named k v = (k, v)

abbrev networks : Map → List InstanceId
networks feed = filter_map (λ e. network_of e.0) (objects feed)

abbrev places_held : Map → List InstanceId
places_held feed = flat_map (λ u. map (hop u) (below u.services ++ u.services ∷ [])) (uses feed)

pub known_in : (feed : Map) (i : InstanceId) → is_known feed i ≡ true → Member i (known_instances feed)
known_in feed i known =
    elim (is_hop i) as (λ b. is_hop i ≡ b → cond b (is_place (place_of i) (held_use feed i)) (is_some (object feed (key.Instance i.0))) ≡ true → Member i (known_instances feed)) [
      | true ↦ λ e k. at_place e (held_use feed i) refl k
      | false ↦ λ e k. at_network (object feed (key.Instance i.0)) refl k
    ] refl known
  where
    at_network : (o : Option LowValue) → object feed (key.Instance i.0) ≡ o → is_some o ≡ true → Member i (known_instances feed)
    at_network (Some v) e t =
        in_left i (networks feed) (places_held feed)
        (in_filter_map (λ (e : LowKey × LowValue). network_of e.0) (named (key.Instance i.0) v) i (objects feed) (in_objects feed (key.Instance i.0) v (held_object (get feed (Low (key.Instance i.0))) v e)) refl)
    at_network None e t = absurd (true≢false (sym t))

    number : (i u j : ℕ) → nat_lt 16383 i ≡ true → u ≡ (i - 16384) / 16 → j ≡ (i - 16384) % 16 → i ≡ 16384 + 16 * u + j
    number i u j e f g = grind arith

    at_place : is_hop i ≡ true → (o : Option Use) → held_use feed i ≡ o → is_place (place_of i) o ≡ true → Member i (known_instances feed)
    at_place e None is t = absurd (true≢false (sym t))
    at_place e (Some u) is t =
        let f = use_found feed (use_of i) u is in
        let here : i ≡ hop u (place_of i) = (λ x. record { 0 = number i.0 u.number (place_of i) e f.1 refl x }) in
        in_right i (networks feed) (places_held feed)
        (in_flat_map (λ (u : Use). map (hop u) (below u.services ++ u.services ∷ [])) u i (uses feed) f.0
        (subst (λ (x : InstanceId). Member x (map (hop u) (below u.services ++ u.services ∷ []))) (sym here)
        (in_map (hop u) (place_of i) (below u.services ++ u.services ∷ []) (in_places u.services (place_of i) (leb-true (place_of i) u.services t)))))
