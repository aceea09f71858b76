-- Lines and columns are counts.
use Rattle.std.proofs.Common.{◌≡◌, ℕ, ◌+◌, ◌-◌, ◌^◌, ◌<◌, ◌==◌, true, false, not, List, [], ◌∷◌, ◌++◌, length, refl, ap, ◌∙◌, arith, inl, inr}
use Rattle.std.proofs.lemmas.Bool.{and_parts, cases_Bool}
use Rattle.explanations.specs.Counting.{ColumnsAreCounted, LinesAreCounted, feeds, is_line}
use Rattle.explanations.specs.Places.{place_after, place_behind, start}
use Rattle.explanations.specs.declared.place.TextPlace.{TextPlace}

-- octets are passed one part after the other
pub behind_both : (p : TextPlace) (xs ys : List ℕ) → place_behind p (xs ++ ys) ≡ place_behind (place_behind p xs) ys
unfolding place_behind
behind_both p [] ys = refl
behind_both p (x ∷ xs) ys = behind_both (place_after p x) xs ys

lines : (p : TextPlace) (octets : List ℕ) → p.line + length octets < 2 ^ 64 - 1 → (place_behind p octets).line ≡ p.line + feeds octets
unfolding place_behind
lines p [] h = omega arith
lines p (c ∷ octets) h =
    elim (cases_Bool (c == 10)) [
      | inl e ↦
          let next : (place_after p c).line ≡ p.line + 1 = rw e (omega (arith, h)) in
          rw e (lines (place_after p c) octets (omega (arith, h, next)) ∙ omega (arith, next))
      | inr e ↦
          let next : (place_after p c).line ≡ p.line = rw e refl in
          rw e (lines (place_after p c) octets (omega (arith, h, next)) ∙ omega (arith, next))
    ]

pub lines_are_counted : LinesAreCounted
lines_are_counted octets h = lines start octets (omega (arith, h))

columns : (p : TextPlace) (line : List ℕ) → is_line line ≡ true → p.column + length line < 2 ^ 64 - 1 → (place_behind p line).column ≡ p.column + length line
unfolding place_behind
columns p [] one h = omega arith
columns p (c ∷ line) one h =
    let q = and_parts (not (c == 10)) (is_line line) one in
    elim (cases_Bool (c == 10)) [
      | inl e ↦ let g : false ≡ true = rw e at q.0 in absurd (cc)
      | inr e ↦
          let next : (place_after p c).column ≡ p.column + 1 = rw e (omega (arith, h)) in
          columns (place_after p c) line q.1 (omega (arith, h, next)) ∙ omega (arith, next)
    ]

later : (p : TextPlace) (line : List ℕ) → is_line line ≡ true → length line < 2 ^ 64 - 2 → (place_behind p (10 ∷ line)).column ≡ 1 + length line
unfolding place_behind
later p line one h = columns (place_after p 10) line one (omega (arith, h))

pub columns_are_counted : ColumnsAreCounted
columns_are_counted = record {
  first = λ line one h. columns start line one (omega (arith, h));
  later = λ before line one h. ap (λ (p : TextPlace). p.column) (behind_both start before (10 ∷ line)) ∙ later (place_behind start before) line one h;
}
