-- What is in a list in order, and the orders of instances and of what is asked.
use Rattle.std.specs.Prelude.{◌≡◌, ℕ, List, [], ◌∷◌, map, get_or}
use Rattle.std.specs.declared.cmp.Ordering.{Ordering}
use Rattle.std.specs.declared.cmp.Ordering.TheVariants.{Less}
use Rattle.std.specs.Ordering.{nat_cmp}
use Rattle.std.specs.Cmp.{IsTotalOrder, on_total, nat_cmp_total}
use Rattle.std.specs.Cmp.Lexicographic.{slice_cmp, nat_list_cmp_total}
use Rattle.std.specs.List.{AllByRecursion}
use Rattle.std.specs.List.Sorted.{IsStrictlySortedBy}
use Rattle.std.specs.FinMap.{IsAntisymmetric, slice_cmp-IsAntisymmetric, nat_cmp-IsAntisymmetric, entries, from_entries}
use Rattle.std.proofs.Common.{refl, sym, ◌∙◌, ap, subst, rules}
use Rattle.ov_sync.proofs.Ascending.{Ascends, Over, ascends_entries}
use Rattle.ov_types.specs.declared.numbers.InstanceId.{InstanceId}
use Rattle.ov_types.specs.declared.targets.Target.{Target}
use Rattle.node_model.specs.Members.{Member}
use Rattle.node_model.proofs.Members.{in_map, from_map, entry_in, from_entry, get_member, member_get}
use Rattle.vpn_tables.specs.Gathered.{in_order, keyed}
use Rattle.rt_membership.specs.declared.asked.Asked.{Asked}
use Rattle.rt_constrain.specs.Needed.{instance_order}
use Rattle.rt_constrain.specs.Asking.{asked_order}

-- ---- a list in order
module _ {K : Type 0} (R : K → K → Ordering) (o : IsTotalOrder R) where
  over_all : {V : Type 0} (k : K) (es : List (K × V)) → Over R k es → AllByRecursion (λ q. R k q ≡ Less) (map (λ e. e.0) es)
  over_all k [] h = tt
  over_all k (e ∷ es) h = (h.0, over_all k es h.1)

  pub keys_sorted : {V : Type 0} (es : List (K × V)) → Ascends R es → IsStrictlySortedBy R (map (λ e. e.0) es)
  unfolding IsStrictlySortedBy
  keys_sorted [] h = tt
  keys_sorted (e ∷ es) h = (over_all e.0 es h.0, keys_sorted es h.1)

  pub in_order_ascends : (xs : List K) → IsStrictlySortedBy R (in_order R xs)
  in_order_ascends xs = keys_sorted (entries (from_entries {R = R} (map keyed xs))) (ascends_entries R o (map keyed xs))

  pub into_order : IsAntisymmetric R → (x : K) (xs : List K) → Member x xs → Member x (in_order R xs)
  into_order exact x xs m =
      let there = entry_in o (keyed x) (map keyed xs) (in_map keyed x xs m) in
      in_map (λ (e : K × Unit {0}). e.0) (x, there.0) (entries (from_entries {R = R} (map keyed xs)))
      (member_get o exact (from_entries {R = R} (map keyed xs)) x there.0 there.1)

  pub from_order : IsAntisymmetric R → (x : K) (xs : List K) → Member x (in_order R xs) → Member x xs
  from_order exact x xs m =
      let e = from_map (λ (e : K × Unit {0}). e.0) x (entries (from_entries {R = R} (map keyed xs))) m in
      let there = from_entry o exact e.0.0 e.0.1 (map keyed xs) (get_member o (from_entries {R = R} (map keyed xs)) e.0.0 e.0.1 e.1) in
      let y = from_map keyed (e.0.0, e.0.1) xs there in
      subst (λ (z : K). Member z xs) (ap (λ (p : K × Unit {0}). p.0) y.2 ∙ e.2) y.1

-- ---- instances go by number
instances_are : (i j : InstanceId) → nat_cmp i.0 j.0 ≡ instance_order i j
instances_are i j = search rules

pub instance_total : IsTotalOrder instance_order
instance_total = subst IsTotalOrder (λ k i j. instances_are i j k) (on_total (λ (i : InstanceId). i.0) nat_cmp_total)

pub instance_exact : IsAntisymmetric instance_order
instance_exact i j e = ap (λ (n : ℕ). record { 0 = n }) (nat_cmp-IsAntisymmetric i.0 j.0 (instances_are i j ∙ e))

-- ---- what is asked goes by length, then by who asks, then by target
abbrev numbers : Asked → List ℕ
numbers a = a.length ∷ a.origin ∷ a.target.0 ∷ []

abbrev of_numbers : List ℕ → Asked
of_numbers ns = record { length = get_or ns 0 0; origin = get_or ns 1 0; target = record { 0 = get_or ns 2 0 } }

asked_are : (a b : Asked) → slice_cmp nat_cmp (numbers a) (numbers b) ≡ asked_order a b
asked_are a b = search rules

pub asked_total : IsTotalOrder asked_order
asked_total = subst IsTotalOrder (λ k a b. asked_are a b k) (on_total numbers nat_list_cmp_total)

pub asked_exact : IsAntisymmetric asked_order
asked_exact a b e = ap of_numbers (slice_cmp-IsAntisymmetric nat_cmp-IsAntisymmetric (numbers a) (numbers b) (asked_are a b ∙ e))
