-- Octets of messages in a row, of which the first ones are passed over.
use Rattle.std.proofs.Common.{◌≡◌, ◌<◌, ◌≤◌, ◌+◌, ◌-◌, ℕ, zero, suc, Bool, List, [], ◌∷◌, ◌++◌, length, get_or, take, drop, if◌then◌else◌, sym, ◌∙◌, ap, arith, append_assoc, length-drop}
use Rattle.std.proofs.Math.Seq.{take-append-add}
use Rattle.std.proofs.lemmas.Bool.{le-ltb, lt-ltb}
use Rattle.std.proofs.lemmas.List.{take-append-le}
use Rattle.std.specs.List.{concat}
use Rattle.running_nodes.specs.Steps.{untaken}

drop_both : (k : ℕ) (xs ys : List ℕ) → drop k (xs ++ ys) ≡ drop k xs ++ drop (k - length xs) ys
drop_both zero xs ys = let none : 0 ≡ 0 - length xs = omega arith in ap (λ (n : ℕ). xs ++ drop n ys) none
drop_both (suc k) [] ys = let all : suc k ≡ suc k - 0 = omega arith in ap (λ (n : ℕ). drop n ys) all
drop_both (suc k) (x ∷ xs) ys =
    let less : k - length xs ≡ suc k - suc (length xs) = omega arith in
    drop_both k xs ys ∙ ap (λ (n : ℕ). drop k xs ++ drop n ys) less

module _ (m : List ℕ) (ms : List (List ℕ)) (skip n : ℕ) where
  -- ---- where the first message has more octets than are wanted
  pub some_of_first : n < length m - skip → take n (drop skip (concat (m ∷ ms))) ≡ take n (drop skip m)
  some_of_first h =
      let some : n ≤ length (drop skip m) = omega (arith, length-drop skip m) in
      ap (λ (octets : List ℕ). take n octets) (drop_both skip m (concat ms)) ∙ take-append-le n (drop skip m) (drop (skip - length m) (concat ms)) some

  pub first_stays : n < length m - skip → untaken (skip + n) (m ∷ ms) ≡ m ∷ ms
  first_stays h =
      let some : skip + n < length m = omega arith in
      ap (λ (b : Bool). if b then m ∷ ms else untaken (skip + n - length m) ms) (lt-ltb (skip + n) (length m) some)

  -- ---- where all of it is wanted
  pub all_of_first : length m - skip ≤ n
      → take n (drop skip (concat (m ∷ ms))) ≡ drop skip m ++ take (n - (length m - skip)) (drop (skip - length m) (concat ms))
  all_of_first h =
      let split : n ≡ length (drop skip m) + (n - (length m - skip)) = omega (arith, length-drop skip m) in
      ap (λ (octets : List ℕ). take n octets) (drop_both skip m (concat ms))
      ∙ (ap (λ (k : ℕ). take k (drop skip m ++ drop (skip - length m) (concat ms))) split
      ∙ take-append-add (drop skip m) (drop (skip - length m) (concat ms)) (n - (length m - skip)))

  pub first_goes : length m - skip ≤ n → untaken (skip + n) (m ∷ ms) ≡ untaken ((skip - length m) + (n - (length m - skip))) ms
  first_goes h =
      let all : length m ≤ skip + n = omega arith in
      let left : skip + n - length m ≡ (skip - length m) + (n - (length m - skip)) = omega arith in
      ap (λ (b : Bool). if b then m ∷ ms else untaken (skip + n - length m) ms) (le-ltb (skip + n) (length m) all)
      ∙ ap (λ (k : ℕ). untaken k ms) left

-- ---- the same of messages, where there is one
pub some_taken : (acc : List (List ℕ)) (skip n : ℕ) → 0 < length acc → n < length (get_or acc 0 []) - skip
    → (take n (drop skip (concat acc)) ≡ take n (drop skip (get_or acc 0 []))) × (untaken (skip + n) acc ≡ acc)
some_taken [] skip n some h = absurd (omega arith)
some_taken (m ∷ ms) skip n some h = (some_of_first m ms skip n h, first_stays m ms skip n h)

pub all_taken : (acc : List (List ℕ)) (skip n : ℕ) → 0 < length acc → length (get_or acc 0 []) - skip ≤ n
    → (take n (drop skip (concat acc))
    ≡ drop skip (get_or acc 0 []) ++ take (n - (length (get_or acc 0 []) - skip)) (drop (skip - length (get_or acc 0 [])) (concat (drop 1 acc))))
    × (untaken (skip + n) acc ≡ untaken ((skip - length (get_or acc 0 [])) + (n - (length (get_or acc 0 []) - skip))) (drop 1 acc))
all_taken [] skip n some h = absurd (omega arith)
all_taken (m ∷ ms) skip n some h = (all_of_first m ms skip n h, first_goes m ms skip n h)

-- ---- one more message
module _ (acc acc' : List (List ℕ)) (octets octets' m : List ℕ) (skip n skip' left : ℕ) (is : m ≡ get_or acc 0 [])
    (size : left ≡ length m - skip) (less : skip' ≡ skip - length m) (goes : acc' ≡ drop 1 acc)
    (pushed : octets' ≡ octets ++ drop skip (get_or acc 0 [])) (some : 0 < length acc) (all : left ≤ n) where
  size_is : left ≡ length (get_or acc 0 []) - skip
  size_is = size ∙ ap (λ (o : List ℕ). length o - skip) is

  less_is : skip' ≡ skip - length (get_or acc 0 [])
  less_is = less ∙ ap (λ (o : List ℕ). skip - length o) is

  step : (take n (drop skip (concat acc))
      ≡ drop skip (get_or acc 0 []) ++ take (n - (length (get_or acc 0 []) - skip)) (drop (skip - length (get_or acc 0 [])) (concat (drop 1 acc))))
      × (untaken (skip + n) acc ≡ untaken ((skip - length (get_or acc 0 [])) + (n - (length (get_or acc 0 []) - skip))) (drop 1 acc))
  step = all_taken acc skip n some (omega (arith, size_is, all))

  pub one_more_taken : (wanted : List ℕ) → octets ++ take n (drop skip (concat acc)) ≡ wanted
      → octets' ++ take (n - left) (drop skip' (concat acc')) ≡ wanted
  one_more_taken wanted before =
      let now : octets' ++ take (n - left) (drop skip' (concat acc'))
      ≡ (octets ++ drop skip (get_or acc 0 [])) ++ take (n - (length (get_or acc 0 []) - skip)) (drop (skip - length (get_or acc 0 [])) (concat (drop 1 acc))) =
      λ j. pushed j ++ take (n - size_is j) (drop (less_is j) (concat (goes j))) in
      now
      ∙ (append_assoc octets (drop skip (get_or acc 0 [])) (take (n - (length (get_or acc 0 []) - skip)) (drop (skip - length (get_or acc 0 [])) (concat (drop 1 acc))))
      ∙ (ap (λ (o : List ℕ). octets ++ o) (sym step.0) ∙ before))

  pub one_fewer_left : (stays : List (List ℕ)) → untaken (skip + n) acc ≡ stays → untaken (skip' + (n - left)) acc' ≡ stays
  one_fewer_left stays before =
      let now : untaken (skip' + (n - left)) acc' ≡ untaken ((skip - length (get_or acc 0 [])) + (n - (length (get_or acc 0 []) - skip))) (drop 1 acc) =
      λ j. untaken (less_is j + (n - size_is j)) (goes j) in
      now ∙ (sym step.1 ∙ before)
