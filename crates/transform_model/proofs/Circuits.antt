-- The circuits of a use are those of its services, each once.
use Rattle.std.proofs.Common.{◌≡◌, ◌≢◌, ◌↔◌, inl, inr, ◌+◌, ◌-◌, ◌*◌, ◌/◌, ◌≤◌, ◌<◌, ℕ, zero, suc, List, [], ◌∷◌, ◌++◌, Some, get_or, refl, sym, ap, ◌∙◌, subst, arith}
use Rattle.std.specs.List.{AllPairs, Contains, slice_get}
use Rattle.std.proofs.lemmas.List.Elements.{Contains-get_or}
use Rattle.std.proofs.lemmas.List.Kept.{AllPairs-cons}
use Rattle.ov_types.proofs.FirstLemmas.{contains_here, contains_later, contains_cases}
use Rattle.node_model.specs.RouteTargets.Numbers.{hop_instance_of, left_circuit_of, right_circuit_of, circuit_instance_of}
use Rattle.acl_compile.specs.ConfigTypes.Service.{Service}
use Rattle.transform_model.specs.IsUse.{IsLeftCircuit, IsRightCircuit}
use Rattle.transform_model.specs.Uses.{ConfiguredUse, Circuit, left_circuits_from, right_circuits_from, left_circuits, right_circuits}
use Rattle.transform_model.proofs.Lists.{no_pairs, pairs_append_by}

-- circuits with the numbers that a function gives services, which count from the first
abbrev circuits_by : (ℕ → ℕ) → ℕ → List Service → List Circuit
circuits_by f first [] = []
circuits_by f first (s ∷ ss) = record { number = f first; service = s } ∷ circuits_by f (first + 1) ss

lefts_are : (number first : ℕ) (ss : List Service) → left_circuits_from number first ss ≡ circuits_by (left_circuit_of number) first ss
lefts_are number first [] = refl
lefts_are number first (s ∷ ss) =
    ap (λ (ks : List Circuit). record { number = left_circuit_of number first; service = s } ∷ ks) (lefts_are number (first + 1) ss)

rights_are : (number first : ℕ) (ss : List Service) → right_circuits_from number first ss ≡ circuits_by (right_circuit_of number) first ss
rights_are number first [] = refl
rights_are number first (s ∷ ss) =
    ap (λ (ks : List Circuit). record { number = right_circuit_of number first; service = s } ∷ ks) (rights_are number (first + 1) ss)

-- a circuit is that of the service at a place
record IsAt (f : ℕ → ℕ) (first : ℕ) (ss : List Service) (k : Circuit) : Type 0 where
  place : ℕ
  service : slice_get ss place ≡ Some k.service
  number : k.number ≡ f (first + place)

by_is : (f : ℕ → ℕ) (first : ℕ) (ss : List Service) (k : Circuit) → Contains (circuits_by f first ss) k → IsAt f first ss k
by_is f first [] k h = absurd (omega (arith, h.1))
by_is f first (s ∷ ss) k h =
    let here : Circuit = record { number = f first; service = s } in
    elim (contains_cases here (circuits_by f (first + 1) ss) k h) [
      | inl same ↦
          let start : first ≡ first + 0 = omega arith in
          record {
            place = 0;
            service = ap (λ (c : Circuit). Some c.service) same;
            number = sym (ap (λ (c : Circuit). c.number) same) ∙ ap f start;
          }
      | inr later ↦
          let q = by_is f (first + 1) ss k later in
          let next : first + 1 + q.place ≡ first + suc q.place = omega arith in
          record { place = suc q.place; service = q.service; number = q.number ∙ ap f next }
    ]

is_by : (f : ℕ → ℕ) (first : ℕ) (ss : List Service) (place : ℕ) (k : Circuit) → slice_get ss place ≡ Some k.service
    → k.number ≡ f (first + place) → Contains (circuits_by f first ss) k
is_by f first [] place k at is = cc
is_by f first (s ∷ ss) zero k at is =
    let here : Circuit = record { number = f first; service = s } in
    let start : first ≡ first + 0 = omega arith in
    let number : f first ≡ k.number = ap f start ∙ sym is in
    let service : s ≡ k.service = cc in
    let same : here ≡ k = λ i. record { number = number i; service = service i } in
    subst (Contains (here ∷ circuits_by f (first + 1) ss)) same (contains_here here (circuits_by f (first + 1) ss))
is_by f first (s ∷ ss) (suc place) k at is =
    let here : Circuit = record { number = f first; service = s } in
    let next : first + suc place ≡ first + 1 + place = omega arith in
    contains_later k here (circuits_by f (first + 1) ss) (is_by f (first + 1) ss place k at (is ∙ ap f next))

-- no two have one number where services have distinct ones
abbrev pub Differ : Circuit → Circuit → Type 0
Differ k l = k.number ≢ l.number

by_differ : (f : ℕ → ℕ) (first : ℕ) (ss : List Service) → ((a b : ℕ) → first ≤ a → a < b → f a ≢ f b) → AllPairs Differ (circuits_by f first ss)
by_differ f first [] rises = no_pairs Differ
by_differ f first (s ∷ ss) rises =
    let here : Circuit = record { number = f first; service = s } in
    let rest : List Circuit = circuits_by f (first + 1) ss in
    AllPairs-cons Differ here rest
    (λ k d lt same.
    let q = by_is f (first + 1) ss (get_or rest k d) (Contains-get_or rest k d lt) in
    rises first (first + 1 + q.place) (omega arith) (omega arith) (same ∙ q.number))
    (by_differ f (first + 1) ss (λ a b from lt. rises a b (omega arith) lt))

-- ---- of a use

pub left_is : (u : ConfiguredUse) (k : Circuit) → Contains (left_circuits u) k → (place : ℕ) × IsLeftCircuit u place k
left_is u k h =
    let q = by_is (left_circuit_of u.number) 1 u.services k (subst (λ (ks : List Circuit). Contains ks k) (lefts_are u.number 1 u.services) h) in
    let next : 1 + q.place ≡ q.place + 1 = omega arith in
    (q.place, record { service = q.service; number = q.number ∙ ap (left_circuit_of u.number) next })

pub is_left : (u : ConfiguredUse) (place : ℕ) (k : Circuit) → IsLeftCircuit u place k → Contains (left_circuits u) k
is_left u place k h =
    let next : place + 1 ≡ 1 + place = omega arith in
    subst (λ (ks : List Circuit). Contains ks k) (sym (lefts_are u.number 1 u.services))
    (is_by (left_circuit_of u.number) 1 u.services place k h.service (h.number ∙ ap (left_circuit_of u.number) next))

pub right_is : (u : ConfiguredUse) (k : Circuit) → Contains (right_circuits u) k → (place : ℕ) × IsRightCircuit u place k
right_is u k h =
    let q = by_is (right_circuit_of u.number) 1 u.services k (subst (λ (ks : List Circuit). Contains ks k) (rights_are u.number 1 u.services) h) in
    let next : 1 + q.place ≡ q.place + 1 = omega arith in
    (q.place, record { service = q.service; number = q.number ∙ ap (right_circuit_of u.number) next })

pub is_right : (u : ConfiguredUse) (place : ℕ) (k : Circuit) → IsRightCircuit u place k → Contains (right_circuits u) k
is_right u place k h =
    let next : place + 1 ≡ 1 + place = omega arith in
    subst (λ (ks : List Circuit). Contains ks k) (sym (rights_are u.number 1 u.services))
    (is_by (right_circuit_of u.number) 1 u.services place k h.service (h.number ∙ ap (right_circuit_of u.number) next))

pub left_circuits_iff : (u : ConfiguredUse) (k : Circuit) → Contains (left_circuits u) k ↔ ((place : ℕ) × IsLeftCircuit u place k)
left_circuits_iff u k = (left_is u k, λ h. is_left u h.0 k h.1)

pub right_circuits_iff : (u : ConfiguredUse) (k : Circuit) → Contains (right_circuits u) k ↔ ((place : ℕ) × IsRightCircuit u place k)
right_circuits_iff u k = (right_is u k, λ h. is_right u h.0 k h.1)

-- ---- their numbers

pub left_number : (u : ConfiguredUse) (place : ℕ) (k : Circuit) → IsLeftCircuit u place k → k.number ≡ 2 * (16384 + 16 * u.number + place) + 1
left_number u place k h =
    let less : place + 1 - 1 ≡ place = omega arith in
    h.number ∙ ap (λ (j : ℕ). 2 * (16384 + 16 * u.number + j) + 1) less

pub right_number : (u : ConfiguredUse) (place : ℕ) (k : Circuit) → IsRightCircuit u place k → k.number ≡ 2 * (16384 + 16 * u.number + (place + 1))
right_number u place k h = h.number

half_odd : (n : ℕ) → (2 * n + 1) / 2 ≡ n
half_odd n = omega arith

half_even : (n : ℕ) → (2 * n) / 2 ≡ n
half_even n = omega arith

pub left_instance : (u : ConfiguredUse) (place : ℕ) (k : Circuit) → IsLeftCircuit u place k → circuit_instance_of k.number ≡ hop_instance_of u.number place
left_instance u place k h =
    let half : k.number / 2 ≡ 16384 + 16 * u.number + place = ap (λ (n : ℕ). n / 2) (left_number u place k h) ∙ half_odd (16384 + 16 * u.number + place) in
    λ i. record { 0 = half i }

pub right_instance : (u : ConfiguredUse) (place : ℕ) (k : Circuit) → IsRightCircuit u place k → circuit_instance_of k.number ≡ hop_instance_of u.number (place + 1)
right_instance u place k h =
    let half : k.number / 2 ≡ 16384 + 16 * u.number + (place + 1) = ap (λ (n : ℕ). n / 2) (right_number u place k h) ∙ half_even (16384 + 16 * u.number + (place + 1)) in
    λ i. record { 0 = half i }

-- no circuit is a left and a right one
pub sides_differ : (u v : ConfiguredUse) (a b : ℕ) (k l : Circuit) → IsLeftCircuit u a k → IsRightCircuit v b l → k.number ≢ l.number
sides_differ u v a b k l left right same =
    let odd : 2 * (16384 + 16 * u.number + a) + 1 ≡ 2 * (16384 + 16 * v.number + (b + 1)) = sym (left_number u a k left) ∙ same ∙ right_number v b l right in
    omega arith

lefts_rise : (number a b : ℕ) → 1 ≤ a → a < b → left_circuit_of number a ≢ left_circuit_of number b
lefts_rise number a b from lt same =
    let one : 2 * (16384 + 16 * number + (a - 1)) + 1 ≡ 2 * (16384 + 16 * number + (b - 1)) + 1 = same in
    omega arith

rights_rise : (number a b : ℕ) → 1 ≤ a → a < b → right_circuit_of number a ≢ right_circuit_of number b
rights_rise number a b from lt same =
    let one : 2 * (16384 + 16 * number + a) ≡ 2 * (16384 + 16 * number + b) = same in
    omega arith

pub lefts_differ : (u : ConfiguredUse) → AllPairs Differ (left_circuits u)
lefts_differ u = subst (AllPairs Differ) (sym (lefts_are u.number 1 u.services)) (by_differ (left_circuit_of u.number) 1 u.services (lefts_rise u.number))

pub rights_differ : (u : ConfiguredUse) → AllPairs Differ (right_circuits u)
rights_differ u = subst (AllPairs Differ) (sym (rights_are u.number 1 u.services)) (by_differ (right_circuit_of u.number) 1 u.services (rights_rise u.number))

pub circuits_differ : (u : ConfiguredUse) → AllPairs Differ (left_circuits u ++ right_circuits u)
circuits_differ u =
    pairs_append_by Differ (left_circuits u) (right_circuits u) (lefts_differ u) (rights_differ u)
    (λ k l in_k in_l. let a = left_is u k in_k in let b = right_is u l in_l in sides_differ u u a.0 b.0 k l a.1 b.1)
