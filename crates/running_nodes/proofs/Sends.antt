-- Sends in turn over links that tell their messages and their breaks: which of them leave, and what breaks are left.
use Rattle.std.proofs.Common.{◌≡◌, ◌<◌, ◌≤◌, ℕ, zero, suc, Bool, true, false, IsTrue, ◌&&◌, not, nat_lt, List, [], ◌∷◌, ◌++◌, length, take, if◌then◌else◌, sym, ◌∙◌, ap, refl, subst, arith}
use Rattle.std.proofs.lemmas.Bool.{and_parts, le-ltb, lt-ltb}
use Rattle.ov_link.specs.Breaks.{counted, is_break}
use Rattle.ov_link.specs.Delivery.{all_pass, counted_by}
use Rattle.running_nodes.specs.Steps.{Sending, behind, sending}

-- ---- breaks, counted from the first send on
counted_on : (n : ℕ) (breaks : List ℕ) → counted_by (suc n) breaks ≡ counted_by n (counted breaks)
counted_on zero breaks = refl
counted_on (suc n) breaks = ap counted (counted_on n breaks)

is_not : (b : Bool) → not b ≡ true → b ≡ false
is_not true h = cc
is_not false h = refl

pub record PassesFirst (n : ℕ) (breaks : List ℕ) : Type 0 where
  pub first : is_break breaks 1 ≡ false
  pub rest : IsTrue (all_pass n (counted breaks))

passes_first : (n : ℕ) (breaks : List ℕ) → IsTrue (all_pass (suc n) breaks) → PassesFirst n breaks
passes_first zero breaks h = record { first = is_not (is_break breaks 1) h; rest = refl }
passes_first (suc n) breaks h =
    let parts = and_parts (all_pass (suc n) breaks) (not (is_break (counted_by (suc n) breaks) 1)) h in
    let before = passes_first n breaks parts.0 in
    let last : not (is_break (counted_by n (counted breaks)) 1) ≡ true =
    ap (λ (bs : List ℕ). not (is_break bs 1)) (sym (counted_on n breaks)) ∙ parts.1 in
    record { first = before.first; rest = ap (λ (b : Bool). b && not (is_break (counted_by n (counted breaks)) 1)) before.rest ∙ last }

-- ---- so many messages left, and then a send failed or not
abbrev pub left_so : List (List ℕ) → ℕ → Bool → List ℕ → Sending
left_so planned count failed breaks = record {
  accepted = take count planned;
  failed = failed;
  breaks = counted_by (if failed then suc count else count) breaks;
}

later : (count : ℕ) (failed : Bool) (breaks : List ℕ)
    → counted_by (if failed then suc count else count) (counted breaks) ≡ counted_by (if failed then suc (suc count) else suc count) breaks
later count true breaks = sym (counted_on (suc count) breaks)
later count false breaks = sym (counted_on count breaks)

pub sending_is : (planned : List (List ℕ)) (count : ℕ) (failed : Bool) (breaks : List ℕ) → count ≤ length planned
    → (failed ≡ true → count < length planned) → (failed ≡ false → length planned ≤ count)
    → IsTrue (all_pass count breaks) → (failed ≡ true → IsTrue (is_break (counted_by count breaks) 1))
    → sending breaks planned ≡ left_so planned count failed breaks
sending_is [] zero true breaks within short full passed met = absurd (let none : 0 < 0 = short refl in omega arith)
sending_is [] zero false breaks within short full passed met = refl
sending_is [] (suc n) failed breaks within short full passed met = absurd (omega arith)
sending_is (m ∷ ms) zero true breaks within short full passed met =
    ap (λ (b : Bool). if b then left_so (m ∷ ms) 0 true breaks else behind m (sending (counted breaks) ms)) (met refl)
sending_is (m ∷ ms) zero false breaks within short full passed met =
    absurd (let all : suc (length ms) ≤ 0 = full refl in omega arith)
sending_is (m ∷ ms) (suc n) failed breaks within short full passed met =
    let passes = passes_first n breaks passed in
    let rest : sending (counted breaks) ms ≡ left_so ms n failed (counted breaks) =
    sending_is ms n failed (counted breaks) (omega arith) (λ f. let less : suc n < suc (length ms) = short f in omega arith)
    (λ f. let more : suc (length ms) ≤ suc n = full f in omega arith) passes.rest
    (λ f. subst (λ (bs : List ℕ). IsTrue (is_break bs 1)) (counted_on n breaks) (met f)) in
    ap (λ (b : Bool). if b then left_so (m ∷ ms) 0 true breaks else behind m (sending (counted breaks) ms)) passes.first
    ∙ (ap (λ (s : Sending). behind m s) rest
    ∙ ap (λ (bs : List ℕ). let s : Sending = record { accepted = m ∷ take n ms; failed = failed; breaks = bs } in s) (later n failed breaks))

-- ---- of two lists in a row, the first fails where fewer left than it has
less_both : (a b : ℕ) → nat_lt a b ≡ nat_lt (suc a) (suc b)
less_both a b = grind (arith)

pub first_fails : (breaks : List ℕ) (xs ys : List (List ℕ))
    → (sending breaks xs).failed ≡ nat_lt (length (sending breaks (xs ++ ys)).accepted) (length xs)
first_fails breaks [] ys = sym (le-ltb (length (sending breaks ys).accepted) 0 (omega arith))
first_fails breaks (x ∷ xs) ys = by_test (is_break breaks 1) (first_fails (counted breaks) xs ys)
  where
    by_test : (b : Bool) → (sending (counted breaks) xs).failed ≡ nat_lt (length (sending (counted breaks) (xs ++ ys)).accepted) (length xs)
        → (if b then record { accepted = []; failed = true; breaks = counted breaks } else behind x (sending (counted breaks) xs)).failed
        ≡ nat_lt (length (if b then record { accepted = []; failed = true; breaks = counted breaks } else behind x (sending (counted breaks) (xs ++ ys))).accepted) (suc (length xs))
    by_test true h = sym (lt-ltb 0 (suc (length xs)) (omega arith))
    by_test false h = h ∙ less_both (length (sending (counted breaks) (xs ++ ys)).accepted) (length xs)
