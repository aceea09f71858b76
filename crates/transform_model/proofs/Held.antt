-- What low-level objects and tables hold.
use Rattle.std.proofs.Common.{◌≡◌, ◌≢◌, ℕ, IsTrue, List, flat_map, refl, sym, ap, ◌∙◌, arith, inl, inr}
use Rattle.std.specs.Cmp.{nat_cmp_is}
use Rattle.std.specs.List.{AllPairs, Contains}
use Rattle.std.specs.List.Sorted.{IsPermutation}
use Rattle.std.specs.Ordering.{nat_cmp, ordering_then}
use Rattle.std.specs.declared.cmp.Ordering.{Ordering}
use Rattle.std.specs.declared.cmp.Ordering.TheVariants.{Less, Equal}
use Rattle.std.proofs.lemmas.List.Sorted.{Contains-permutation, IsPermutation-sym}
use Rattle.ov_types.specs.Keys.{low_key_cmp}
use Rattle.ov_types.specs.declared.numbers.InstanceId.{InstanceId}
use Rattle.ov_types.specs.declared.objects.LowKey.{LowKey}
use Rattle.ov_types.specs.declared.objects.LowKey.TheVariants.{Instance, Attach, Acl, ChainUse}
use Rattle.reach_plain.specs.ConfigTypes.Form.{has_config_form}
use Rattle.reach_plain.specs.ConfigTypes.Config.{Config}
use Rattle.reach_plain.specs.ConfigTypes.Topology.{Topology}
use Rattle.reach_plain.specs.ConfigCheck.Sentences.{IsValid}
use Rattle.reach_plain.proofs.ConfigCheck.OneHome.{two_among}
use Rattle.transform_model.specs.IsObject.{IsObject}
use Rattle.transform_model.specs.IsRow.{IsRow}
use Rattle.transform_model.specs.IsRow.IsRow.{to_port, to_left_circuit, to_right_circuit, to_right_subnet, to_left_subnet, at_left_end, at_right_end}
use Rattle.transform_model.specs.Objects.{LowObject, low_objects, ascending_instances}
use Rattle.transform_model.specs.Tables.{Row, instance_table, tables_of}
use Rattle.transform_model.proofs.Ascending.{Rises, is_ascending, ascending_rises}
use Rattle.transform_model.proofs.Kept.{tables_kept}
use Rattle.reach_plain.proofs.PolicyRules.Lists.{joined_is, is_joined}
use Rattle.transform_model.proofs.LowKeys.{low_in_order, low_iff}
use Rattle.transform_model.proofs.Rows.{rows_iff}

-- ---- one object has a key

same_number : (n : ℕ) → nat_cmp n n ≡ Equal
same_number n = sym (nat_cmp_is n n Equal refl)

not_less : (o : Ordering) → o ≡ Equal → o ≢ Less
not_less o e = λ h. cc

not_below : (k : LowKey) → low_key_cmp k k ≢ Less
not_below (Instance n) = not_less _ (same_number n)
not_below (Attach n) = not_less _ (same_number n)
not_below (Acl a b) = not_less _ (ap (λ (o : Ordering). ordering_then o (nat_cmp b b)) (same_number a) ∙ same_number b)
not_below (ChainUse n) = not_less _ (same_number n)

pub one_object : (t : Topology) (c : Config) (o p : LowObject) → Contains (low_objects t c) o → Contains (low_objects t c) p → o.0 ≡ p.0 → o ≡ p
one_object t c o p in_o in_p e =
    let R : LowObject → LowObject → Type 0 = λ d e. low_key_cmp d.0 e.0 ≡ Less in
    elim (two_among R (low_objects t c) o p (low_in_order t c) in_o in_p) [
      | inl same ↦ same
      | inr h ↦ elim h [
        | inl less ↦ absurd (not_below p.0 (ap (λ (k : LowKey). low_key_cmp k p.0) (sym e) ∙ less))
        | inr less ↦ absurd (not_below p.0 (ap (low_key_cmp p.0) (sym e) ∙ less))
      ]
    ]

-- a row's instance is that of its table
pub instance_of_row : (t : Topology) (c : Config) (i : InstanceId) (r : Row) → IsRow t c i r → r.0.0 ≡ i
instance_of_row t c i r (to_port network home port node in_network is_port imports at is) = ap (λ (x : Row). x.0.0) is
instance_of_row t c i r (to_left_circuit u j k node is_use is_circuit is_at at is) = ap (λ (x : Row). x.0.0) is
instance_of_row t c i r (to_right_circuit u j k node is_use is_circuit is_at at is) = ap (λ (x : Row). x.0.0) is
instance_of_row t c i r (to_right_subnet u j k node prefix is_use is_circuit is_at holds at is) = ap (λ (x : Row). x.0.0) is
instance_of_row t c i r (to_left_subnet u j k node prefix is_use is_circuit is_at holds at is) = ap (λ (x : Row). x.0.0) is
instance_of_row t c i r (at_left_end u port node is_use is_port at is) = ap (λ (x : Row). x.0.0) is
instance_of_row t c i r (at_right_end u port node is_use is_port at is) = ap (λ (x : Row). x.0.0) is

module _ (t : Topology) (c : Config) (form : IsTrue (has_config_form c)) (v : IsValid t c) where
  pub object_is : (o : LowObject) → Contains (low_objects t c) o → IsObject t c o
  object_is o h = (low_iff t c o v form).0 h

  pub is_object : (o : LowObject) → IsObject t c o → Contains (low_objects t c) o
  is_object o h = (low_iff t c o v form).1 h

  -- ---- the rows of several instances

  kept : (is : List InstanceId) → IsPermutation (flat_map (instance_table t c) (ascending_instances is)) (tables_of t c (ascending_instances is))
  kept is =
      let rises : AllPairs Rises (ascending_instances is) = ascending_rises is in
      tables_kept t c (ascending_instances is) v form (λ i j d lt within. apart _ _ (rises i j d lt within))
    where
      apart : (i j : InstanceId) → Rises i j → i.0 ≢ j.0
      apart i j h = λ e. omega arith

  pub row_of_table : (is : List InstanceId) (r : Row) → Contains (tables_of t c (ascending_instances is)) r → (i : InstanceId) × IsRow t c i r
  row_of_table is r h =
      let rows : List Row = flat_map (instance_table t c) (ascending_instances is) in
      let there : Contains rows r =
      Contains-permutation (tables_of t c (ascending_instances is)) rows r (IsPermutation-sym rows (tables_of t c (ascending_instances is)) (kept is)) h in
      let from = joined_is (instance_table t c) (ascending_instances is) r there in
      (from.0, (rows_iff t c from.0 r v).0 from.2)

  pub in_tables : (is : List InstanceId) (i : InstanceId) (r : Row) → Contains is i → IsRow t c i r → Contains (tables_of t c (ascending_instances is)) r
  in_tables is i r h row =
      Contains-permutation (flat_map (instance_table t c) (ascending_instances is)) (tables_of t c (ascending_instances is)) r (kept is)
      (is_joined (instance_table t c) (ascending_instances is) i r (is_ascending is i h) ((rows_iff t c i r v).1 row))
