-- Ports of a network at an address, as an object changes that stays one of them, or none.
use Rattle.std.specs.Prelude.{◌≡◌, ◌≢◌, ◌⊎◌, ℕ, Bool, true, false, cond, ◌==◌}
use Rattle.std.specs.declared.option.Option.{Option}
use Rattle.std.specs.declared.option.Option.TheVariants.{Some, None}
use Rattle.std.specs.declared.cmp.Ordering.TheVariants.{Equal}
use Rattle.std.specs.List.{list_any}
use Rattle.std.specs.Ordering.{eq_by_cmp, is_eq}
use Rattle.std.specs.Cmp.{Equal-is, tied_itself}
use Rattle.std.specs.FinMap.{get, get-insert, get-remove}
use Rattle.std.proofs.Common.{refl, sym, ◌∙◌, ap, subst, inl, inr, arith}
use Rattle.std.proofs.lemmas.Bool.{true≢false}
use Rattle.std.proofs.lemmas.Bool.Decides.{nat_tests}
use Rattle.std.proofs.lemmas.Option.{same_Some}
use Rattle.ov_types.specs.declared.numbers.InstanceId.{InstanceId}
use Rattle.ov_types.specs.declared.objects.LowKey.{LowKey}
use Rattle.ov_types.specs.declared.objects.LowValue.{LowValue}
use Rattle.ov_types.specs.declared.prefix.Addr.{Addr}
use Rattle.ov_sync.specs.declared.Delta.{Delta}
use Rattle.ov_sync.specs.declared.Delta.TheVariants.{Put, Drop}
use Rattle.ov_sync.specs.Embed.{moved_delta}
use Rattle.ov_sync.specs.Keyed.{changed, key_of}
use Rattle.node_model.specs.Keys.{Key, Low, key_cmp}
use Rattle.node_model.specs.Members.{Member}
use Rattle.node_model.specs.Values.{Value, Object, Route, Entry, Label}
use Rattle.node_model.specs.Maps.{Map, as_object, object, objects}
use Rattle.node_model.specs.Wants.{networks_at, port_at}
use Rattle.node_model.proofs.Members.{any_in, from_any, from_filter_map, iff_same, in_filter_map, none_some}
use Rattle.node_model.proofs.Objects.{in_objects, object_of}
use Rattle.node_model.proofs.Orders.{key_exact, key_total}
use Rattle.vpn_tables.proofs.TablesStay.{object_stays}
use Rattle.vpn_tables.specs.Here.{port_here, put_by}

-- ---- what is held
object_is : (o : Option Value) (v : LowValue) → as_object o ≡ Some v → o ≡ Some (Object v)
object_is None v e = absurd (none_some v e)
object_is (Some (Object w)) v e = ap (λ (w : LowValue). Some (Object w)) (same_Some w v e)
object_is (Some (Route r)) v e = absurd (none_some v e)
object_is (Some (Entry r)) v e = absurd (none_some v e)
object_is (Some (Label l)) v e = absurd (none_some v e)

pub held_object : (feed : Map) (k : LowKey) (v : LowValue) → object feed k ≡ Some v → Member (k, v) (objects feed)
held_object feed k v e = in_objects feed k v (object_is (get feed (Low k)) v e)

-- a change puts what it puts
pub object_put : (feed : Map) (d : Delta LowKey LowValue) → object (changed feed (moved_delta Low Object d)) (key_of d) ≡ put_by d
object_put feed (Put k v) = ap as_object (get-insert key_total feed (Low k) (Object v) (Low k) ∙ ap (λ b. cond b (Some (Object v)) (get feed (Low k))) (ap is_eq (tied_itself key_total (Low k))))
object_put feed (Drop k) = ap as_object (get-remove key_total feed (Low k) (Low k) ∙ ap (λ b. cond b None (get feed (Low k))) (ap is_eq (tied_itself key_total (Low k))))

-- ---- what is the same, and what is not
abbrev pub low_in : Key → LowKey → LowKey
low_in (Low k) d = k
low_in _ d = d

one_name : (a b : LowKey) → (a ≡ b) ⊎ (a ≢ b)
one_name a b =
    elim (eq_by_cmp key_cmp (Low a) (Low b)) as (λ t. eq_by_cmp key_cmp (Low a) (Low b) ≡ t → (a ≡ b) ⊎ (a ≢ b)) [
      | true ↦ λ e. inl (ap (λ (k : Key). low_in k a) (key_exact (Low a) (Low b) ((Equal-is (key_cmp (Low a) (Low b))).0 e)))
      | false ↦ λ e. inr (λ is. true≢false (sym (ap is_eq (subst (λ (x : LowKey). key_cmp (Low a) (Low x) ≡ Equal) is (tied_itself key_total (Low a)))) ∙ e))
    ] refl

one_number : (m n : ℕ) → (m ≡ n) ⊎ (m ≢ n)
one_number m n =
    elim (m == n) as (λ t. (m == n) ≡ t → (m ≡ n) ⊎ (m ≢ n)) [
      | true ↦ λ e. inl (grind (arith, nat_tests))
      | false ↦ λ e. inr (λ is. grind (arith, nat_tests))
    ] refl

pub one_network : (a b : Option InstanceId) → (a ≡ b) ⊎ (a ≢ b)
one_network None None = inl refl
one_network None (Some n) = inr (λ e. none_some n e)
one_network (Some n) None = inr (λ e. none_some n (sym e))
one_network (Some m) (Some n) =
    elim (one_number m.0 n.0) as (λ _. (Some m ≡ Some n) ⊎ (Some m ≢ Some n)) [
      | inl e ↦ inl (ap (λ (z : ℕ). Some (record { 0 = z })) e)
      | inr apart ↦ inr (λ e. apart (ap (λ (x : InstanceId). x.0) (same_Some m n e)))
    ]

-- ---- ports
module _ (address : Addr) where
  port_in : (o : Option LowValue) (n : InstanceId) → port_here address o ≡ Some n → (v : LowValue) × (o ≡ Some v) × (port_at address v ≡ Some n)
  port_in None n e = absurd (none_some n e)
  port_in (Some v) n e = (v, refl, e)

  -- from one map to another, where an object stays a port of its network here, or none, and others stay
  module _ (m n : Map) (j : LowKey) (others : (x : LowKey) → j ≢ x → object m x ≡ object n x) (alike : port_here address (object m j) ≡ port_here address (object n j)) where
    port_kept : (e : LowKey × LowValue) (x : InstanceId) → Member e (objects m) → port_at address e.1 ≡ Some x → (f : LowKey × LowValue) × Member f (objects n) × (port_at address f.1 ≡ Some x)
    port_kept e x held port =
        let here : object m e.0 ≡ Some e.1 = ap as_object (object_of m e.0 e.1 held) in
        elim (one_name j e.0) as (λ _. (f : LowKey × LowValue) × Member f (objects n) × (port_at address f.1 ≡ Some x)) [
          | inl is ↦
              let before : port_here address (object m j) ≡ Some x = ap (λ (k : LowKey). port_here address (object m k)) is ∙ ap (port_here address) here ∙ port in
              let q = port_in (object n j) x (sym alike ∙ before) in
              ((j, q.0), held_object n j q.0 q.1, q.2)
          | inr apart ↦ (e, held_object n e.0 e.1 (sym (others e.0 apart) ∙ here), port)
        ]

    network_kept : (p : InstanceId → Bool) → list_any p (networks_at m address) ≡ true → list_any p (networks_at n address) ≡ true
    network_kept p h =
        let q = from_any p (networks_at m address) h in
        let r = from_filter_map (λ (e : LowKey × LowValue). port_at address e.1) q.0 (objects m) q.1 in
        let s = port_kept r.0 q.0 r.1 r.2 in
        any_in p q.0 (networks_at n address) (in_filter_map (λ (e : LowKey × LowValue). port_at address e.1) s.0 q.0 (objects n) s.1 s.2) q.2

  pub networks_alike : (feed : Map) (d : Delta LowKey LowValue) → port_here address (object feed (key_of d)) ≡ port_here address (put_by d) → (p : InstanceId → Bool)
      → list_any p (networks_at feed address) ≡ list_any p (networks_at (changed feed (moved_delta Low Object d)) address)
  networks_alike feed d alike p =
      let next = changed feed (moved_delta Low Object d) in
      let same : port_here address (object feed (key_of d)) ≡ port_here address (object next (key_of d)) = alike ∙ ap (port_here address) (sym (object_put feed d)) in
      iff_same (list_any p (networks_at feed address)) (list_any p (networks_at next address)) (network_kept feed next (key_of d) (object_stays feed d) same p)
      (network_kept next feed (key_of d) (λ x apart. sym (object_stays feed d x apart)) (sym same) p)
