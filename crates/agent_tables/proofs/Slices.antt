-- The labels and access lists of a slice stand in the order of their keys.
use Rattle.std.specs.Prelude.{◌≡◌, List, [], ◌∷◌, map, IsTrue}
use Rattle.std.specs.declared.cmp.Ordering.TheVariants.{Less}
use Rattle.std.specs.declared.option.Option.{Option}
use Rattle.std.specs.declared.option.Option.TheVariants.{Some, None}
use Rattle.std.specs.Cmp.{IsTotalOrder, on_total, nat_cmp_total}
use Rattle.std.specs.List.{All, AllByRecursion, filter_map, cons_option}
use Rattle.std.specs.List.Sorted.{IsStrictlySortedBy}
use Rattle.std.proofs.lemmas.Option.{same_Some}
use Rattle.std.proofs.Common.{refl, sym, ◌∙◌, ap, subst, inl, inr, arith}
use Rattle.ov_sync.proofs.Ascending.{ascends}
use Rattle.ov_types.proofs.FirstLemmas.{all_cons}
use Rattle.ov_types.specs.Keys.{low_key_cmp}
use Rattle.ov_types.specs.declared.numbers.Label.{Label as LabelNo}
use Rattle.ov_types.specs.declared.objects.LowKey.{LowKey}
use Rattle.ov_types.specs.declared.objects.LowKey.TheVariants as key
use Rattle.ov_types.specs.declared.objects.LowValue.{LowValue}
use Rattle.ov_types.specs.declared.objects.LowValue.TheVariants as low
use Rattle.ov_types.specs.declared.rows.Attached.{Attached}
use Rattle.ov_types.specs.declared.rows.Attached.TheVariants.{Circuit}
use Rattle.packet_trace.specs.Circuits.{IsOfAUse}
use Rattle.node_core.specs.NodeModel.Agent.{Holdings, acl_entry, attached, slice_in_use}
use Rattle.node_core.specs.NodeModel.Keys.{Low, key_cmp}
use Rattle.node_core.specs.NodeModel.Members.{Member}
use Rattle.node_core.proofs.NodeModel.Images as images
use Rattle.node_core.proofs.NodeModel.Members.{none_some}
use Rattle.node_core.proofs.NodeModel.Orders.{key_total}
use Rattle.node_core.proofs.NodeModel.Published.{IsBefore, Rise, rise_slice}
use Rattle.node_core.proofs.NodeModel.Local.{less_is}
use Rattle.agent_tables.specs.Kept.{label_order}
use Rattle.agent_tables.specs.Objects.{is_of_a_use}
use Rattle.agent_tables.specs.Slice.{pairs_of}
use Rattle.agent_tables.specs.declared.object.SliceObject.{SliceObject}
use Rattle.agent_tables.proofs.Ordered.{all_with, all_in_order, ascends_kept}

-- ---- the slice
all_below : (k : LowKey) (es : List (LowKey × LowValue)) → ((f : LowKey × LowValue) → Member f es → IsBefore k f.0) → AllByRecursion (λ y. low_key_cmp k y ≡ Less) (map (λ e. e.0) es)
all_below k [] h = tt
all_below k (e ∷ es) h = (sym (images.low_keeps k e.0) ∙ less_is (key_cmp (Low k) (Low e.0)) (h e (inl refl)), all_below k es (λ f m. h f (inr m)))

sorted_from : (es : List (LowKey × LowValue)) → Rise es → IsStrictlySortedBy low_key_cmp (map (λ e. e.0) es)
unfolding IsStrictlySortedBy
sorted_from [] r = tt
sorted_from (e ∷ es) r = (all_below e.0 es r.0, sorted_from es r.1)

pub slice_ascends : (h : Holdings) → IsStrictlySortedBy low_key_cmp (map (λ e. e.0) (slice_in_use h))
slice_ascends h = sorted_from (slice_in_use h) (rise_slice h)

-- ---- its labels
attached_key : (k : LowKey) (v : LowValue) (x : LabelNo × Attached) → attached k v ≡ Some x → k ≡ key.Attach x.0.0
attached_key (key.Attach label) (low.AttachPort port instance address node) x e = ap (λ (x : LabelNo × Attached). key.Attach x.0.0) (same_Some _ x e)
attached_key (key.Attach label) (low.AttachCircuit circuit service node) x e = ap (λ (x : LabelNo × Attached). key.Attach x.0.0) (same_Some _ x e)
attached_key (key.Attach label) (low.Instance imports) x e = absurd (none_some x e)
attached_key (key.Attach label) (low.Acl subnets rules) x e = absurd (none_some x e)
attached_key (key.Attach label) (low.ChainUse left right ls rs hops) x e = absurd (none_some x e)
attached_key (key.Instance n) v x e = absurd (none_some x e)
attached_key (key.Acl from to) v x e = absurd (none_some x e)
attached_key (key.ChainUse n) v x e = absurd (none_some x e)

labels_keep : (d e : LowKey × LowValue) (x y : LabelNo × Attached) → attached d.0 d.1 ≡ Some x → attached e.0 e.1 ≡ Some y → low_key_cmp d.0 e.0 ≡ Less → label_order x.0 y.0 ≡ Less
labels_keep d e x y p q h = sym (λ i. low_key_cmp (attached_key d.0 d.1 x p i) (attached_key e.0 e.1 y q i)) ∙ h

label_total : IsTotalOrder label_order
label_total = on_total (λ (l : LabelNo). l.0) nat_cmp_total

abbrev pub labels_in : List (LowKey × LowValue) → List (LabelNo × Attached)
labels_in slice = filter_map (λ e. attached e.0 e.1) slice

pub labels_in_order : (slice : List (LowKey × LowValue)) → IsStrictlySortedBy low_key_cmp (map (λ e. e.0) slice) → all_with label_order [] (labels_in slice) ≡ labels_in slice
labels_in_order slice sorted =
    all_in_order label_order label_total (labels_in slice)
    (ascends_kept low_key_cmp label_order (λ e. attached e.0 e.1) labels_keep slice (ascends low_key_cmp slice sorted))

of_a_use : (k : LowKey) (v : LowValue) (x : LabelNo × Attached) → attached k v ≡ Some x → IsTrue (is_of_a_use v) → IsOfAUse x.1
of_a_use (key.Attach label) (low.AttachPort port instance address node) x e h = subst (λ (x : LabelNo × Attached). IsOfAUse x.1) (same_Some _ x e) refl
of_a_use (key.Attach label) (low.AttachCircuit circuit service node) x e h = subst (λ (x : LabelNo × Attached). IsOfAUse x.1) (same_Some (record { 0 = label }, Circuit circuit service) x e) h
of_a_use (key.Attach label) (low.Instance imports) x e h = absurd (none_some x e)
of_a_use (key.Attach label) (low.Acl subnets rules) x e h = absurd (none_some x e)
of_a_use (key.Attach label) (low.ChainUse left right ls rs hops) x e h = absurd (none_some x e)
of_a_use (key.Instance n) v x e h = absurd (none_some x e)
of_a_use (key.Acl from to) v x e h = absurd (none_some x e)
of_a_use (key.ChainUse n) v x e h = absurd (none_some x e)

pub circuits_of_uses : (os : List SliceObject) → All (λ e. IsOfAUse e.1) (labels_in (pairs_of os))
circuits_of_uses [] = λ n d lt. absurd (omega arith)
circuits_of_uses (o ∷ os) =
    let rest = circuits_of_uses os in
    elim (attached o.key o.value.now) as (λ (r : Option (LabelNo × Attached)). attached o.key o.value.now ≡ r → All (λ e. IsOfAUse e.1) (cons_option r (labels_in (pairs_of os)))) [
      | None ↦ λ e. rest
      | Some x ↦ λ e. all_cons (λ (e : LabelNo × Attached). IsOfAUse e.1) x (labels_in (pairs_of os)) (of_a_use o.key o.value.now x e o.circuit) rest
    ] refl

-- ---- and its access lists
acl_key : (k : LowKey) (v : LowValue) (x : LowKey × LowValue) → acl_entry k v ≡ Some x → k ≡ x.0
acl_key (key.Acl from to) v x e = ap (λ (x : LowKey × LowValue). x.0) (same_Some (key.Acl from to, v) x e)
acl_key (key.Attach label) v x e = absurd (none_some x e)
acl_key (key.Instance n) v x e = absurd (none_some x e)
acl_key (key.ChainUse n) v x e = absurd (none_some x e)

lists_keep : (d e x y : LowKey × LowValue) → acl_entry d.0 d.1 ≡ Some x → acl_entry e.0 e.1 ≡ Some y → low_key_cmp d.0 e.0 ≡ Less → low_key_cmp x.0 y.0 ≡ Less
lists_keep d e x y p q h = sym (λ i. low_key_cmp (acl_key d.0 d.1 x p i) (acl_key e.0 e.1 y q i)) ∙ h

abbrev pub lists_in : List (LowKey × LowValue) → List (LowKey × LowValue)
lists_in slice = filter_map (λ e. acl_entry e.0 e.1) slice

pub low_total : IsTotalOrder low_key_cmp
low_total = subst IsTotalOrder (λ i x y. images.low_keeps x y i) (on_total Low key_total)

pub lists_in_order : (slice : List (LowKey × LowValue)) → IsStrictlySortedBy low_key_cmp (map (λ e. e.0) slice) → all_with low_key_cmp [] (lists_in slice) ≡ lists_in slice
lists_in_order slice sorted =
    all_in_order low_key_cmp low_total (lists_in slice)
    (ascends_kept low_key_cmp low_key_cmp (λ e. acl_entry e.0 e.1) lists_keep slice (ascends low_key_cmp slice sorted))
