-- Numbers that are retired.
use Rattle.std.specs.Prelude.{◌≡◌, ◌≢◌, ℕ, suc, ◌≤◌, ◌<◌, ◌==◌, List, [], ◌∷◌, ◌++◌, drop, Bool, true, false}
use Rattle.std.specs.Prelude.{not, ◌&&◌, ◌||◌, nat_lt}
use Rattle.std.specs.List.{filter, list_any, slice_index_or}
use Rattle.std.proofs.Common.{refl, sym, ◌∙◌, ap, subst, arith, ◌⊎◌, inl, inr, true≢false}
use Rattle.std.proofs.Math.Bool.{or_assoc}
use Rattle.std.proofs.lemmas.Bool.Decides.{nat_tests}
use Rattle.std.proofs.lemmas.List.Folds.{list_any-append}
use Rattle.control_node.specs.Agents.{Ascend, inserted}

abbrev pub has : ℕ → List ℕ → Bool
has n ns = list_any (λ m. m == n) ns

either : (m n : ℕ) → (m < n) ⊎ (n ≤ m)
either m n = search arith

-- ---- the least
below_none : (n low high : ℕ) (ns : List ℕ) → Ascend low high ns → n < low → has n ns ≡ false
below_none n low high [] are lt = refl
below_none n low high (m ∷ ns) are lt =
    let le = are.0 in
    let unlike : (m == n) ≡ false = grind (arith, nat_tests) in
    rw unlike (below_none n (suc m) high ns are.1.1 (omega (arith, lt, le)))

from_low : (n low high : ℕ) (ns : List ℕ) → Ascend low high ns → has n ns ≡ true → low ≤ n
from_low n low high ns are is = elim (either n low) [
  | inl lt ↦ absurd (true≢false (sym is ∙ below_none n low high ns are lt))
  | inr le ↦ le
]

same : (n : ℕ) → (n == n) ≡ true
same n = grind (arith, nat_tests)

pub first_least : (ns : List ℕ) (low high past_all n : ℕ) → Ascend low high ns → has n ns ≡ true
    → (has (slice_index_or ns 0 past_all) ns ≡ true) × (slice_index_or ns 0 past_all ≤ n)
first_least [] low high past_all n are is = absurd (true≢false (sym is))
first_least (m ∷ ns) low high past_all n are is =
    (rw (same m) refl, from_low n m high (m ∷ ns) (omega arith, (are.1.0, are.1.1)) is)

pub none_first : (ns : List ℕ) (past_all : ℕ) → ((n : ℕ) → has n ns ≡ false) → slice_index_or ns 0 past_all ≡ past_all
none_first [] past_all none = refl
none_first (m ∷ ns) past_all none = absurd (true≢false (sym (ap (λ b. b || has m ns) (same m)) ∙ none m))

-- ---- the first is taken
weaker : (low low' high high' : ℕ) (ns : List ℕ) → low' ≤ low → high ≤ high' → Ascend low high ns → Ascend low' high' ns
weaker low low' high high' [] le far are = tt
weaker low low' high high' (n ∷ ns) le far are =
    let from = are.0 in let under = are.1.0 in
    (omega (arith, le, from), (omega (arith, under, far), weaker (suc n) (suc n) high high' ns (omega arith) far are.1.1))

pub rest_ascends : (low high high' : ℕ) (ns : List ℕ) → high ≤ high' → Ascend low high ns → Ascend low high' (drop 1 ns)
rest_ascends low high high' [] far are = tt
rest_ascends low high high' (n ∷ ns) far are =
    (let from = are.0 in weaker (suc n) low high high' ns (omega (arith, from)) far are.1.1)

pub first_bounds : (low high : ℕ) (ns : List ℕ) → low ≤ high → Ascend low high ns
    → (low ≤ slice_index_or ns 0 high) × (slice_index_or ns 0 high ≤ high)
first_bounds low high [] le are = (le, omega arith)
first_bounds low high (n ∷ ns) le are = (are.0, (let under = are.1.0 in omega (arith, under)))

pub first_few : (low high most : ℕ) (ns : List ℕ) → Ascend low high ns → high ≤ most → (ns ≡ [] → high < most)
    → slice_index_or ns 0 high < most
first_few low high most [] are le room = room refl
first_few low high most (n ∷ ns) are le room = (let under = are.1.0 in omega (arith, under, le))

and_true : (b : Bool) → b ≡ (b && true)
and_true true = refl
and_true false = refl

alike : (m n : ℕ) → (m ≡ n) ⊎ (m ≢ n)
alike m n = search arith

pub first_gone : (ns : List ℕ) (low high past_all : ℕ) → Ascend low high ns
    → has (slice_index_or ns 0 past_all) (drop 1 ns) ≡ false
first_gone [] low high past_all are = refl
first_gone (m ∷ ns) low high past_all are = below_none m (suc m) high ns are.1.1 (omega arith)

pub first_taken : (ns : List ℕ) (low high past_all n : ℕ) → Ascend low high ns
    → has n (drop 1 ns) ≡ (has n ns && not (n == slice_index_or ns 0 past_all))
first_taken [] low high past_all n are = refl
first_taken (m ∷ ns) low high past_all n are = elim (alike m n) [
  | inl is ↦ (
      let one : (m == n) ≡ true = grind (arith, nat_tests) in
      let two : (n == m) ≡ true = grind (arith, nat_tests) in
      rw (one, two) (below_none n (suc m) high ns are.1.1 (omega (arith, is))))
  | inr unlike ↦ (
      let one : (m == n) ≡ false = grind (arith, nat_tests) in
      let two : (n == m) ≡ false = grind (arith, nat_tests) in
      rw (one, two) (and_true (has n ns)))
]

-- ---- one more is retired
none_below : (n low high : ℕ) (ns : List ℕ) → Ascend low high ns → n ≤ low → filter (λ m. nat_lt m n) ns ≡ []
none_below n low high [] are le = refl
none_below n low high (m ∷ ns) are le =
    let from = are.0 in
    let past : nat_lt m n ≡ false = grind (arith, nat_tests) in
    rw past (none_below n (suc m) high ns are.1.1 (omega (arith, le, from)))

all_above : (n low high : ℕ) (ns : List ℕ) → Ascend low high ns → n < low → filter (λ m. nat_lt n m) ns ≡ ns
all_above n low high [] are lt = refl
all_above n low high (m ∷ ns) are lt =
    let from = are.0 in
    let past : nat_lt n m ≡ true = grind (arith, nat_tests) in
    rw past (ap (λ (l : List ℕ). m ∷ l) (all_above n (suc m) high ns are.1.1 (omega (arith, lt, from))))

order : (m n : ℕ) → (m < n) ⊎ ((m ≡ n) ⊎ (n < m))
order m n = search arith

pub inserted_ascends : (n low high : ℕ) (ns : List ℕ) → Ascend low high ns → low ≤ n → n < high → has n ns ≡ false
    → Ascend low high (inserted ns n)
inserted_ascends n low high [] are le lt absent = (le, (lt, tt))
inserted_ascends n low high (m ∷ ns) are le lt absent = elim (order m n) [
  | inl below ↦ (
      let small : nat_lt m n ≡ true = grind (arith, nat_tests) in
      let large : nat_lt n m ≡ false = grind (arith, nat_tests) in
      let unlike : (m == n) ≡ false = grind (arith, nat_tests) in
      let none : has n ns ≡ false = ap (λ b. b || has n ns) (sym unlike) ∙ absent in
      rw (small, large) (are.0, (are.1.0, inserted_ascends n (suc m) high ns are.1.1 (omega (arith, below)) lt none)))
  | inr rest ↦ elim rest [
    | inl is ↦ (
        let one : (m == n) ≡ true = grind (arith, nat_tests) in
        absurd (true≢false (ap (λ b. b || has n ns) (sym one) ∙ absent)))
    | inr above ↦ (
        let small : nat_lt m n ≡ false = grind (arith, nat_tests) in
        let large : nat_lt n m ≡ true = grind (arith, nat_tests) in
        let front = none_below n (suc m) high ns are.1.1 (omega (arith, above)) in
        let behind = all_above n (suc m) high ns are.1.1 (omega (arith, above)) in
        rw (small, large) (subst (Ascend low high) (λ i. sym front i ++ n ∷ m ∷ sym behind i)
        (le, (lt, (omega (arith, above), (are.1.0, are.1.1))))))
  ]
]

or_true : (b : Bool) → (b || true) ≡ true
or_true true = refl
or_true false = refl

or_moved : (a b c : Bool) → (a || (b || c)) ≡ (b || (a || c))
or_moved true true c = refl
or_moved true false c = refl
or_moved false b c = refl

others_stay : (ns : List ℕ) (n o : ℕ) → o ≢ n
    → (has o (filter (λ m. nat_lt m n) ns) || has o (filter (λ m. nat_lt n m) ns)) ≡ has o ns
others_stay [] n o unlike = refl
others_stay (m ∷ ns) n o unlike = elim (order m n) [
  | inl below ↦ (
      let small : nat_lt m n ≡ true = grind (arith, nat_tests) in
      let large : nat_lt n m ≡ false = grind (arith, nat_tests) in
      rw (small, large) (or_assoc (m == o) (has o (filter (λ m. nat_lt m n) ns)) (has o (filter (λ m. nat_lt n m) ns))
      ∙ ap (λ b. (m == o) || b) (others_stay ns n o unlike)))
  | inr rest ↦ elim rest [
    | inl is ↦ (
        let small : nat_lt m n ≡ false = grind (arith, nat_tests) in
        let large : nat_lt n m ≡ false = grind (arith, nat_tests) in
        let apart : (m == o) ≡ false = grind (arith, nat_tests) in
        rw (small, large, apart) (others_stay ns n o unlike))
    | inr above ↦ (
        let small : nat_lt m n ≡ false = grind (arith, nat_tests) in
        let large : nat_lt n m ≡ true = grind (arith, nat_tests) in
        rw (small, large) (or_moved (has o (filter (λ m. nat_lt m n) ns)) (m == o) (has o (filter (λ m. nat_lt n m) ns))
        ∙ ap (λ b. (m == o) || b) (others_stay ns n o unlike)))
  ]
]

pub one_more : (ns : List ℕ) (n o : ℕ) → has o (inserted ns n) ≡ ((o == n) || has o ns)
one_more ns n o =
    list_any-append (λ m. m == o) (filter (λ m. nat_lt m n) ns) (n ∷ filter (λ m. nat_lt n m) ns)
    ∙ elim (alike o n) [
      | inl is ↦ (
          let one : (n == o) ≡ true = grind (arith, nat_tests) in
          let two : (o == n) ≡ true = grind (arith, nat_tests) in
          rw (one, two) (or_true (has o (filter (λ m. nat_lt m n) ns))))
      | inr unlike ↦ (
          let one : (n == o) ≡ false = grind (arith, nat_tests) in
          let two : (o == n) ≡ false = grind (arith, nat_tests) in
          rw (one, two) (others_stay ns n o unlike))
    ]
