-- The configuration node holds the low-level objects, in the order of their keys.
use Rattle.std.specs.Prelude.{◌≡◌, ◌⊎◌, ℕ, zero, suc, ◌≤◌, max, List, [], ◌∷◌, map, length}
use Rattle.std.specs.declared.option.Option.{Option}
use Rattle.std.specs.declared.option.Option.TheVariants.{Some, None}
use Rattle.std.specs.List.{filter_map}
use Rattle.std.specs.Cmp.{IsTotalOrder, on_total}
use Rattle.std.specs.Cmp.Lexicographic.{nat_list_cmp_total}
use Rattle.std.specs.FinMap.{FinMap, IsAntisymmetric, entries, from_entries, empty, insert, entries-insert}
use Rattle.std.specs.BTreeMap.{insert_entry}
use Rattle.std.proofs.lemmas.Option.{same_Some}
use Rattle.std.proofs.Common.{refl, sym, ◌∙◌, ap, subst, inl, inr, arith}
use Rattle.ov_types.specs.Keys.{low_key_cmp}
use Rattle.ov_types.specs.declared.objects.LowKey.{LowKey}
use Rattle.ov_types.specs.declared.objects.LowValue.{LowValue}
use Rattle.ov_sync.proofs.Ascending.{entries-empty, put-insert_entry}
use Rattle.ov_sync.proofs.EmbedLaws.{entries-embedded}
use Rattle.machine_model.specs.Setup.{Setup}
use Rattle.transform_model.specs.Objects.{LowObject, objects as made, with_objects, low_objects}
use Rattle.transform_model.specs.Uses.{ConfiguredUse, uses}
use Rattle.transform_model.specs.NodeModel.Members.{Member}
use Rattle.transform_model.specs.NodeModel.Keys.{Key, Low, key_cmp, numbers}
use Rattle.transform_model.specs.NodeModel.Values.{Value, Object as ObjectOf}
use Rattle.transform_model.specs.NodeModel.Maps.{low_entry, objects}
use Rattle.transform_model.specs.NodeModel.Wants.{slice_entry}
use Rattle.transform_model.proofs.NodeModel.Images.{low_keeps}
use Rattle.transform_model.proofs.NodeModel.Orders.{key_total, key_exact}
use Rattle.machine_model.specs.Setup.{low, low_in, longest, longest_in, longest_of}

-- ---- the order of low-level keys
same_cmp : (λ (a : LowKey) (b : LowKey). key_cmp (Low a) (Low b)) ≡ low_key_cmp
same_cmp = λ i a b. low_keeps a b i

low_total : IsTotalOrder low_key_cmp
low_total = subst IsTotalOrder same_cmp (on_total (λ (k : LowKey). numbers (Low k)) nat_list_cmp_total)

abbrev as_low : Key → Option LowKey
as_low (Low k) = Some k
as_low _ = None

low_exact : IsAntisymmetric low_key_cmp
low_exact a b e = same_Some a b (ap as_low (key_exact (Low a) (Low b) (low_keeps a b ∙ e)))

-- ---- objects that are put into a map in turn
abbrev Objects : Type 0
Objects = FinMap low_key_cmp LowValue

abbrev put_all : Objects → List LowObject → Objects
put_all m [] = m
put_all m (o ∷ os) = put_all (insert m o.0 o.1) os

put_entry : (m : Objects) (k : LowKey) (v : LowValue) → insert_entry low_key_cmp (entries m) k v ≡ entries (insert m k v)
put_entry m k v = put-insert_entry low_key_cmp k v (entries m) ∙ sym (entries-insert low_total m k v)

with_all : (m : Objects) (os : List LowObject) → with_objects (entries m) os ≡ entries (put_all m os)
with_all m [] = refl
with_all m (o ∷ os) = ap (λ (es : List LowObject). with_objects es os) (put_entry m o.0 o.1) ∙ with_all (insert m o.0 o.1) os

low_map : Setup → Objects
low_map x = put_all empty (made x.topology x.config)

entries-low_map : (x : Setup) → entries (low_map x) ≡ low_objects x.topology x.config
unfolding low_map low_objects
entries-low_map x = sym (with_all empty (made x.topology x.config)) ∙ ap (λ (es : List LowObject). with_objects es (made x.topology x.config)) (entries-empty {V = LowValue} low_key_cmp)

-- ---- the map that is told
pub entries-low : (x : Setup) → entries (low x) ≡ map slice_entry (low_objects x.topology x.config)
unfolding low_in
entries-low x =
    ap (λ (es : List LowObject). entries (from_entries {R = key_cmp} (map slice_entry es))) (sym (entries-low_map x))
    ∙ entries-embedded {R = low_key_cmp} {S = key_cmp} Low ObjectOf low_total key_total low_keeps low_exact (low_map x)
    ∙ ap (map slice_entry) (entries-low_map x)

objects_again : (es : List LowObject) → filter_map (λ (e : Key × Value). low_entry e.0 e.1) (map slice_entry es) ≡ es
objects_again [] = refl
objects_again (e ∷ es) = λ i. e ∷ objects_again es i

pub objects-low : (x : Setup) → objects (low x) ≡ low_objects x.topology x.config
objects-low x = ap (filter_map (λ (e : Key × Value). low_entry e.0 e.1)) (entries-low x) ∙ objects_again (low_objects x.topology x.config)

-- ---- the longest chain in effect
within_longest : (us : List ConfiguredUse) (u : ConfiguredUse) → Member u us → length u.services ≤ longest_of us
within_longest [] u m = absurd m
within_longest (w ∷ us) u (inl e) = subst (λ (u : ConfiguredUse). length u.services ≤ longest_of (w ∷ us)) e (left (length w.services) (longest_of us))
  where
    left : (m n : ℕ) → m ≤ max m n
    left m n = omega arith
within_longest (w ∷ us) u (inr m) = right (length u.services) (length w.services) (longest_of us) (within_longest us u m)
  where
    right : (k m n : ℕ) → k ≤ n → k ≤ max m n
    right k m n h = omega (arith, h)

abbrev IsOfOne : List ConfiguredUse → ℕ → Type 0
IsOfOne us n = (n ≡ 0) ⊎ ((u : ConfiguredUse) × Member u us × (length u.services ≡ n))

of_either : (w : ConfiguredUse) (us : List ConfiguredUse) (m n : ℕ) → length w.services ≡ m → IsOfOne us n → IsOfOne (w ∷ us) (max m n)
of_either w us m n e o =
    elim (which m n) as (λ _. IsOfOne (w ∷ us) (max m n)) [
      | inl is ↦ inr (w, inl refl, e ∙ sym is)
      | inr is ↦ elim o as (λ _. IsOfOne (w ∷ us) (max m n)) [ inl z ↦ inl (is ∙ z) | inr q ↦ inr (q.0, inr q.1, q.2 ∙ sym is) ]
    ]
  where
    which : (m n : ℕ) → (max m n ≡ m) ⊎ (max m n ≡ n)
    which zero n = inr (omega arith)
    which (suc m) zero = inl (omega arith)
    which (suc m) (suc n) = elim (which m n) as (λ _. (max (suc m) (suc n) ≡ suc m) ⊎ (max (suc m) (suc n) ≡ suc n)) [ inl e ↦ inl (omega (arith, e)) | inr e ↦ inr (omega (arith, e)) ]

longest_is_one : (us : List ConfiguredUse) → IsOfOne us (longest_of us)
longest_is_one [] = inl refl
longest_is_one (w ∷ us) = of_either w us (length w.services) (longest_of us) refl (longest_is_one us)

pub longest_bounds : (x : Setup) (u : ConfiguredUse) → Member u (uses x.config) → length u.services ≤ longest x
unfolding longest_in
longest_bounds x u m = within_longest (uses x.config) u m

pub longest_met : (x : Setup) → (longest x ≡ 0) ⊎ ((u : ConfiguredUse) × Member u (uses x.config) × (length u.services ≡ longest x))
unfolding longest_in
longest_met x = longest_is_one (uses x.config)
