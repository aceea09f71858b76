-- Instances put into an ascending list, each once; and the list that has given instances is one.
use Rattle.std.proofs.Common.{◌≡◌, ◌⊎◌, inl, inr, ◌<◌, List, [], ◌∷◌, refl, sym, ap, ◌∙◌, subst, arith}
use Rattle.std.specs.BTreeSet.{insert_key}
use Rattle.std.specs.FinMap.{nat_cmp-IsAntisymmetric}
use Rattle.std.specs.List.{All, AllPairs, Contains}
use Rattle.std.specs.Ordering.{nat_cmp, ordering_reverse, match_ordering}
use Rattle.std.specs.declared.cmp.Ordering.{Ordering}
use Rattle.std.specs.declared.cmp.Ordering.TheVariants.{Less, Equal, Greater}
use Rattle.std.proofs.lemmas.Cmp.{nat_cmp_total}
use Rattle.std.proofs.lemmas.List.Elements.{All-cons, All-contains, All-weaker}
use Rattle.std.proofs.lemmas.List.Kept.{AllPairs-cons}
use Rattle.std.proofs.lemmas.Map.Views.{All-insert_key}
use Rattle.ov_types.specs.declared.numbers.InstanceId.{InstanceId}
use Rattle.ov_types.proofs.FirstLemmas.{pairs_head, pairs_tail, contains_here, contains_later, contains_cases}
use Rattle.transform_model.specs.Objects.{instance_cmp, with_instances, ascending_instances}
use Rattle.transform_model.proofs.Keys.{less_is}
use Rattle.transform_model.proofs.Lists.{no_pairs}

abbrev pub Rises : InstanceId → InstanceId → Type 0
Rises i j = i.0 < j.0

abbrev Put : InstanceId → InstanceId → List InstanceId → Ordering → List InstanceId
Put k y ys o = match_ordering o (k ∷ y ∷ ys) (y ∷ ys) (y ∷ insert_key instance_cmp ys k)

put_is : (k : InstanceId) (is : List InstanceId) (x : InstanceId) → Contains (insert_key instance_cmp is k) x → (k ≡ x) ⊎ Contains is x
put_is k [] x h = contains_cases k [] x h
put_is k (y ∷ ys) x h =
    elim (nat_cmp k.0 y.0) as (λ o. Contains (Put k y ys o) x → (k ≡ x) ⊎ Contains (y ∷ ys) x) [
      | Less ↦ λ g. contains_cases k (y ∷ ys) x g
      | Equal ↦ λ g. inr g
      | Greater ↦ λ g. elim (contains_cases y (insert_key instance_cmp ys k) x g) [
        | inl same ↦ inr (subst (Contains (y ∷ ys)) same (contains_here y ys))
        | inr later ↦ elim (put_is k ys x later) [ inl here ↦ inl here | inr there ↦ inr (contains_later x y ys there) ]
      ]
    ] h

put_itself : (k : InstanceId) (is : List InstanceId) → Contains (insert_key instance_cmp is k) k
put_itself k [] = contains_here k []
put_itself k (y ∷ ys) =
    elim (nat_cmp k.0 y.0) as (λ o. (o ≡ nat_cmp k.0 y.0) → Contains (Put k y ys o) k) [
      | Less ↦ λ e. contains_here k (y ∷ ys)
      | Equal ↦ λ e.
          let number : k.0 ≡ y.0 = nat_cmp-IsAntisymmetric k.0 y.0 (sym e) in
          let same : y ≡ k = λ i. record { 0 = sym number i } in
          subst (Contains (y ∷ ys)) same (contains_here y ys)
      | Greater ↦ λ e. contains_later k y (insert_key instance_cmp ys k) (put_itself k ys)
    ] refl

put_keeps : (k : InstanceId) (is : List InstanceId) (x : InstanceId) → Contains is x → Contains (insert_key instance_cmp is k) x
put_keeps k [] x h = absurd (omega (arith, h.1))
put_keeps k (y ∷ ys) x h =
    elim (nat_cmp k.0 y.0) as (λ o. Contains (Put k y ys o) x) [
      | Less ↦ contains_later x k (y ∷ ys) h
      | Equal ↦ h
      | Greater ↦ elim (contains_cases y ys x h) [
        | inl same ↦ subst (Contains (y ∷ insert_key instance_cmp ys k)) same (contains_here y (insert_key instance_cmp ys k))
        | inr later ↦ contains_later x y (insert_key instance_cmp ys k) (put_keeps k ys x later)
      ]
    ]

put_rises : (k : InstanceId) (is : List InstanceId) → AllPairs Rises is → AllPairs Rises (insert_key instance_cmp is k)
put_rises k [] up = AllPairs-cons Rises k [] (λ j d lt. absurd (omega arith)) up
put_rises k (y ∷ ys) up =
    let above : All (Rises y) ys = pairs_head Rises y ys up in
    elim (nat_cmp k.0 y.0) as (λ o. (o ≡ nat_cmp k.0 y.0) → AllPairs Rises (Put k y ys o)) [
      | Less ↦ λ e.
          let lt : k.0 < y.0 = less_is k.0 y.0 (sym e) in
          AllPairs-cons Rises k (y ∷ ys) (All-cons (Rises k) y ys lt (All-weaker (Rises y) (Rises k) (λ z more. omega arith) ys above)) up
      | Equal ↦ λ e. up
      | Greater ↦ λ e.
          let back : nat_cmp y.0 k.0 ≡ Less = nat_cmp_total.antisymm y.0 k.0 ∙ ap ordering_reverse (sym e) in
          let lt : y.0 < k.0 = less_is y.0 k.0 back in
          AllPairs-cons Rises y (insert_key instance_cmp ys k) (All-insert_key instance_cmp k (Rises y) ys above lt)
          (put_rises k ys (pairs_tail Rises y ys up))
    ] refl

-- ---- all of a list

with_is : (set is : List InstanceId) (x : InstanceId) → Contains (with_instances set is) x → Contains set x ⊎ Contains is x
with_is set [] x h = inl h
with_is set (i ∷ is) x h =
    elim (with_is (insert_key instance_cmp set i) is x h) [
      | inl put ↦ elim (put_is i set x put) [
        | inl same ↦ inr (subst (Contains (i ∷ is)) same (contains_here i is))
        | inr there ↦ inl there
      ]
      | inr later ↦ inr (contains_later x i is later)
    ]

with_keeps : (set is : List InstanceId) (x : InstanceId) → Contains set x → Contains (with_instances set is) x
with_keeps set [] x h = h
with_keeps set (i ∷ is) x h = with_keeps (insert_key instance_cmp set i) is x (put_keeps i set x h)

is_with : (set is : List InstanceId) (x : InstanceId) → Contains is x → Contains (with_instances set is) x
is_with set [] x h = absurd (omega (arith, h.1))
is_with set (i ∷ is) x h =
    elim (contains_cases i is x h) [
      | inl same ↦
          with_keeps (insert_key instance_cmp set i) is x
          (subst (Contains (insert_key instance_cmp set i)) same (put_itself i set))
      | inr later ↦ is_with (insert_key instance_cmp set i) is x later
    ]

with_rises : (set is : List InstanceId) → AllPairs Rises set → AllPairs Rises (with_instances set is)
with_rises set [] up = up
with_rises set (i ∷ is) up = with_rises (insert_key instance_cmp set i) is (put_rises i set up)

pub ascending_is : (is : List InstanceId) (x : InstanceId) → Contains (ascending_instances is) x → Contains is x
ascending_is is x h = elim (with_is [] is x h) [ inl none ↦ absurd (omega (arith, none.1)) | inr there ↦ there ]

pub is_ascending : (is : List InstanceId) (x : InstanceId) → Contains is x → Contains (ascending_instances is) x
is_ascending is x h = is_with [] is x h

pub ascending_rises : (is : List InstanceId) → AllPairs Rises (ascending_instances is)
ascending_rises is = with_rises [] is (no_pairs Rises)

-- ---- ascending lists of the same instances are one

first_of : (x y : InstanceId) (xs ys : List InstanceId) → All (Rises x) xs → All (Rises y) ys → Contains (y ∷ ys) x → Contains (x ∷ xs) y → x ≡ y
first_of x y xs ys above_x above_y in_y in_x =
    elim (contains_cases y ys x in_y) [
      | inl same ↦ sym same
      | inr later ↦ elim (contains_cases x xs y in_x) [
        | inl same ↦ same
        | inr other ↦
            let below : y.0 < x.0 = All-contains (Rises y) ys x above_y later in
            let over : x.0 < y.0 = All-contains (Rises x) xs y above_x other in
            absurd (omega arith)
      ]
    ]

later_of : (x y : InstanceId) (xs ys : List InstanceId) → All (Rises x) xs → x ≡ y → ((z : InstanceId) → Contains (x ∷ xs) z → Contains (y ∷ ys) z)
    → (z : InstanceId) → Contains xs z → Contains ys z
later_of x y xs ys above same to z h =
    elim (contains_cases y ys z (to z (contains_later z x xs h))) [
      | inl first ↦
          let less : x.0 < z.0 = All-contains (Rises x) xs z above h in
          let one : x.0 ≡ z.0 = ap (λ (i : InstanceId). i.0) (same ∙ first) in
          absurd (omega arith)
      | inr later ↦ later
    ]

pub one_list : (xs ys : List InstanceId) → AllPairs Rises xs → AllPairs Rises ys → ((z : InstanceId) → Contains xs z → Contains ys z)
    → ((z : InstanceId) → Contains ys z → Contains xs z) → xs ≡ ys
one_list [] [] up_x up_y to back = refl
one_list [] (y ∷ ys) up_x up_y to back = let h = back y (contains_here y ys) in absurd (omega (arith, h.1))
one_list (x ∷ xs) [] up_x up_y to back = let h = to x (contains_here x xs) in absurd (omega (arith, h.1))
one_list (x ∷ xs) (y ∷ ys) up_x up_y to back =
    let above_x : All (Rises x) xs = pairs_head Rises x xs up_x in
    let above_y : All (Rises y) ys = pairs_head Rises y ys up_y in
    let first : x ≡ y = first_of x y xs ys above_x above_y (to x (contains_here x xs)) (back y (contains_here y ys)) in
    let rest : xs ≡ ys =
    one_list xs ys (pairs_tail Rises x xs up_x) (pairs_tail Rises y ys up_y) (later_of x y xs ys above_x first to)
    (later_of y x ys xs above_y (sym first) back) in
    λ i. first i ∷ rest i
