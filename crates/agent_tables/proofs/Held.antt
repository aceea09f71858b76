-- Objects under their keys, in what a session holds, and a change of one access list of it.
use Rattle.std.specs.Prelude.{◌≡◌, ℕ, zero, suc, [], ◌∷◌, true, false, cond, get_or}
use Rattle.std.specs.declared.option.Option.{Option}
use Rattle.std.specs.declared.option.Option.TheVariants.{Some, None}
use Rattle.std.specs.FinMap.{find, get, get-insert, get-remove}
use Rattle.std.specs.Ordering.{eq_by_cmp, is_eq}
use Rattle.std.proofs.lemmas.Option.{same_Some}
use Rattle.std.proofs.Common.{refl, sym, ◌∙◌, ap, subst, set}
use Rattle.ov_sync.specs.Keyed.{changed}
use Rattle.ov_sync.specs.declared.Delta.TheVariants.{Put, Drop}
use Rattle.ov_types.specs.Keys.{low_key_cmp}
use Rattle.ov_types.specs.declared.numbers.InstanceId.{InstanceId}
use Rattle.ov_types.specs.declared.objects.LowKey.{LowKey}
use Rattle.ov_types.specs.declared.objects.LowKey.TheVariants as key
use Rattle.ov_types.specs.declared.objects.LowValue.{LowValue}
use Rattle.node_core.specs.NodeModel.Agent.{Heard, Holdings, slice_in_use}
use Rattle.node_core.specs.NodeModel.Keys.{Low, Row, Vpn, Publish, Subscribe, key_cmp}
use Rattle.node_core.specs.NodeModel.Maps.{Change, Map, as_object, object, objects}
use Rattle.node_core.specs.NodeModel.Values.{Value, Object, Route, Entry, Label}
use Rattle.node_core.proofs.NodeModel.Heard.{same_options}
use Rattle.node_core.proofs.NodeModel.Images as images
use Rattle.node_core.proofs.NodeModel.Members.{from_find, none_some}
use Rattle.node_core.proofs.NodeModel.Objects.{in_objects, object_of}
use Rattle.node_core.proofs.NodeModel.Orders.{key_total}
use Rattle.agent_tables.specs.Listed.{SameBut, list_between, list_key}
use Rattle.agent_tables.specs.Touched.{RowKey}
use Rattle.agent_tables.proofs.Listed.{find_member, in_order, low_exact}
use Rattle.agent_tables.proofs.Slices.{low_total}
use Rattle.agent_tables.proofs.Touched.{rows_stay, session_stays}

-- ---- objects by their keys
object_is : (o : Option Value) (v : LowValue) → as_object o ≡ Some v → o ≡ Some (Object v)
object_is None v e = absurd (none_some v e)
object_is (Some (Object w)) v e = ap (λ (x : LowValue). Some (Object x)) (same_Some w v e)
object_is (Some (Route r)) v e = absurd (none_some v e)
object_is (Some (Entry r)) v e = absurd (none_some v e)
object_is (Some (Label l)) v e = absurd (none_some v e)

pub object_found : (m : Map) (k : LowKey) → find low_key_cmp k (objects m) ≡ object m k
object_found m k =
    same_options (find low_key_cmp k (objects m)) (object m k)
    (λ v e. ap as_object (object_of m k v (from_find low_total low_exact k v (objects m) e)))
    (λ v e. find_member low_key_cmp low_total (objects m) (in_order (record { is_up = true; map = m } ∷ [])) (k, v)
    (in_objects m k v (object_is (get m (Low k)) v e)))

-- ---- two maps that are the same but for one object
pub record MapsSameBut (k : LowKey) (m n : Map) : Type 0 where
  pub objects_same : (q : LowKey) → eq_by_cmp low_key_cmp q k ≡ false → find low_key_cmp q (objects m) ≡ find low_key_cmp q (objects n)
  pub rows_same : (r : RowKey) → get m (Row r.0 r.1) ≡ get n (Row r.0 r.1)

apart : (q k : LowKey) → eq_by_cmp low_key_cmp q k ≡ false → eq_by_cmp key_cmp (Low q) (Low k) ≡ false
apart q k e = ap is_eq (images.low_keeps q k) ∙ e

put_but : (m : Map) (k : LowKey) (v : Value) → MapsSameBut k m (changed m (Put (Low k) v))
put_but m k v = record {
  objects_same = λ q e. object_found m q
      ∙ sym (ap as_object (get-insert key_total m (Low k) v (Low q) ∙ ap (λ b. cond b (Some v) (get m (Low q))) (apart q k e)))
      ∙ sym (object_found (changed m (Put (Low k) v)) q);
  rows_same = rows_stay m (Put (Low k) v) refl;
}

drop_but : (m : Map) (k : LowKey) → MapsSameBut k m (changed m (Drop (Low k)))
drop_but m k = record {
  objects_same = λ q e. object_found m q
      ∙ sym (ap as_object (get-remove key_total m (Low k) (Low q) ∙ ap (λ b. cond b None (get m (Low q))) (apart q k e)))
      ∙ sym (object_found (changed m (Drop (Low k))) q);
  rows_same = rows_stay m (Drop (Low k)) refl;
}

pub list_changed : (m : Map) (c : Change) (n : InstanceId × InstanceId) → list_key (Some c) ≡ Some n
    → MapsSameBut (list_between n) m (changed m c)
list_changed m (Put (Low (key.Acl from to)) v) n e =
    subst (λ (n : InstanceId × InstanceId). MapsSameBut (list_between n) m (changed m (Put (Low (key.Acl from to)) v))) (same_Some _ n e)
    (put_but m (key.Acl from to) v)
list_changed m (Drop (Low (key.Acl from to))) n e =
    subst (λ (n : InstanceId × InstanceId). MapsSameBut (list_between n) m (changed m (Drop (Low (key.Acl from to))))) (same_Some _ n e)
    (drop_but m (key.Acl from to))
list_changed m (Put (Low (key.Attach l)) v) n e = absurd (none_some n e)
list_changed m (Put (Low (key.Instance l)) v) n e = absurd (none_some n e)
list_changed m (Put (Low (key.ChainUse l)) v) n e = absurd (none_some n e)
list_changed m (Drop (Low (key.Attach l))) n e = absurd (none_some n e)
list_changed m (Drop (Low (key.Instance l))) n e = absurd (none_some n e)
list_changed m (Drop (Low (key.ChainUse l))) n e = absurd (none_some n e)
list_changed m (Put (Row i p) v) n e = absurd (none_some n e)
list_changed m (Put (Vpn l) v) n e = absurd (none_some n e)
list_changed m (Put (Publish i p) v) n e = absurd (none_some n e)
list_changed m (Put (Subscribe i) v) n e = absurd (none_some n e)
list_changed m (Drop (Row i p)) n e = absurd (none_some n e)
list_changed m (Drop (Vpn l)) n e = absurd (none_some n e)
list_changed m (Drop (Publish i p)) n e = absurd (none_some n e)
list_changed m (Drop (Subscribe i)) n e = absurd (none_some n e)

-- ---- one session of an agent
pub session_listed : (h : Holdings) (n : ℕ) (s g : Heard) (k : LowKey) → ((d : Heard) → get_or h n d ≡ s) → g.is_up ≡ s.is_up
    → MapsSameBut k s.map g.map → SameBut k h (set h n g)
session_listed h n s g k at up but = record {
  others = λ q e. others_stay h n at q (but.objects_same q e);
  routes = session_stays h n s g at up but.rows_same;
}
  where
    others_stay : (h : Holdings) (n : ℕ) → ((d : Heard) → get_or h n d ≡ s) → (q : LowKey)
        → find low_key_cmp q (objects s.map) ≡ find low_key_cmp q (objects g.map)
        → find low_key_cmp q (slice_in_use h) ≡ find low_key_cmp q (slice_in_use (set h n g))
    others_stay [] n at q e = refl
    others_stay (t ∷ h) zero at q e =
        ap (λ (y : Heard). find low_key_cmp q (cond y.is_up (objects y.map) (slice_in_use h))) (at t)
        ∙ ap (λ b. find low_key_cmp q (cond b (objects s.map) (slice_in_use h))) (sym up)
        ∙ elim g.is_up as (λ b. find low_key_cmp q (cond b (objects s.map) (slice_in_use h))
        ≡ find low_key_cmp q (cond b (objects g.map) (slice_in_use h))) [ true ↦ e | false ↦ refl ]
    others_stay (t ∷ h) (suc n) at q e =
        elim t.is_up as (λ b. find low_key_cmp q (cond b (objects t.map) (slice_in_use h))
        ≡ find low_key_cmp q (cond b (objects t.map) (slice_in_use (set h n g)))) [ true ↦ refl | false ↦ others_stay h n at q e ]
