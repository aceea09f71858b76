-- The line of two ports is that of some cell, and of the least tuple.
use Rattle.std.proofs.Common.{◌≡◌, ◌⊎◌, inl, inr, ℕ, eqb, ltb, Bool, true, false, cond, List, [], ◌∷◌, Option, Some, None, refl, sym, ap, ◌∙◌, subst, arith}
use Rattle.std.specs.List.{Contains}
use Rattle.std.proofs.lemmas.Bool.Decides.{nat_tests}
use Rattle.ov_types.specs.declared.packet.Tuple.{Tuple}
use Rattle.ov_types.proofs.FirstLemmas.{contains_cases, contains_here, contains_later}
use Rattle.hitless_cells.specs.Lines.{best_line, comes_first, lesser, line_on}
use Rattle.hitless_cells.specs.declared.cells.Cell.{Cell}
use Rattle.hitless_cells.specs.declared.ends.Ends.{Ends}
use Rattle.hitless_cells.specs.declared.joints.Joint.{Joint}
use Rattle.hitless_cells.specs.declared.lines.Interruption.{Interruption}
use Rattle.hitless_cells.proofs.Celled.{nothing}

-- the order of tuples

back : (a b c k l m p q r : ℕ) → cond (eqb a k) (cond (eqb b l) (ltb c m) (ltb b l)) (ltb a k) ≡ false
    → cond (eqb k p) (cond (eqb l q) (ltb m r) (ltb l q)) (ltb k p) ≡ false → cond (eqb a p) (cond (eqb b q) (ltb c r) (ltb b q)) (ltb a p) ≡ false
back a b c k l m p q r h g = grind (arith, nat_tests)

-- where one tuple comes no later than another, and a third no later than it, the third comes no later than that other
pub no_later : (t u w : Tuple) → comes_first t u ≡ false → comes_first u w ≡ false → comes_first t w ≡ false
no_later t u w h g = back t.proto t.sport t.dport u.proto u.sport u.dport w.proto w.sport w.dport h g

away : (a b c k l m : ℕ) → cond (eqb a k) (cond (eqb b l) (ltb c m) (ltb b l)) (ltb a k) ≡ true → cond (eqb k a) (cond (eqb l b) (ltb m c) (ltb l b)) (ltb k a) ≡ false
away a b c k l m h = grind (arith, nat_tests)

first_alone : (t u : Tuple) → comes_first t u ≡ true → comes_first u t ≡ false
first_alone t u h = away t.proto t.sport t.dport u.proto u.sport u.dport h

never : (a b c : ℕ) → cond (eqb a a) (cond (eqb b b) (ltb c c) (ltb b b)) (ltb a a) ≡ false
never a b c = grind (arith, nat_tests)

not_itself : (t : Tuple) → comes_first t t ≡ false
not_itself t = never t.proto t.sport t.dport

-- the line is of a tuple that comes no later
pub record IsNoLater (o : Option Interruption) (t : Tuple) : Type 0 where
  pub line : Interruption
  pub is : o ≡ Some line
  pub no_later : comes_first t line.tuple ≡ false

either : (l m : Interruption) (b : Bool) (n : Interruption) → cond b (Some m) (Some l) ≡ Some n → (Some l ≡ Some n) ⊎ (Some m ≡ Some n)
either l m true n h = inr h
either l m false n h = inl h

lesser_is : (o u : Option Interruption) (n : Interruption) → lesser o u ≡ Some n → (o ≡ Some n) ⊎ (u ≡ Some n)
lesser_is None u n h = inr h
lesser_is (Some l) None n h = inl h
lesser_is (Some l) (Some m) n h = either l m (comes_first m.tuple l.tuple) n h

still : (o u : Option Interruption) (t : Tuple) → IsNoLater o t → IsNoLater (lesser o u) t
still None u t h = let never : None ≡ Some h.line = h.is in absurd cc
still (Some l) None t h = h
still (Some l) (Some m) t h =
    let same : l ≡ h.line = let e : Some l ≡ Some h.line = h.is in cc in
    let late : comes_first t l.tuple ≡ false = subst (λ (n : Interruption). comes_first t n.tuple ≡ false) (sym same) h.no_later in
    elim (comes_first m.tuple l.tuple) as (λ b. comes_first m.tuple l.tuple ≡ b → IsNoLater (cond b (Some m) (Some l)) t) [
      | true ↦ λ e. record { line = m; is = refl; no_later = no_later t l.tuple m.tuple late (first_alone m.tuple l.tuple e) }
      | false ↦ λ e. record { line = l; is = refl; no_later = late }
    ] refl

now : (o : Option Interruption) (m : Interruption) → IsNoLater (lesser o (Some m)) m.tuple
now None m = record { line = m; is = refl; no_later = not_itself m.tuple }
now (Some l) m =
    elim (comes_first m.tuple l.tuple) as (λ b. comes_first m.tuple l.tuple ≡ b → IsNoLater (cond b (Some m) (Some l)) m.tuple) [
      | true ↦ λ e. record { line = m; is = refl; no_later = not_itself m.tuple }
      | false ↦ λ e. record { line = l; is = refl; no_later = e }
    ] refl

module _ (from to : Ends) (j k : Joint) where
  -- a line is that of a cell
  pub record IsOf (cells : List Cell) (l : Interruption) : Type 0 where
    pub cell : Cell
    pub stands : Contains cells cell
    pub is : line_on from to j k cell ≡ Some l

  best_is : (best : Option Interruption) (cells : List Cell) (l : Interruption) → best_line from to j k best cells ≡ Some l → (best ≡ Some l) ⊎ IsOf cells l
  best_is best [] l h = inl h
  best_is best (c ∷ cs) l h =
      elim (best_is (lesser best (line_on from to j k c)) cs l h) [
        | inl here ↦ elim (lesser_is best (line_on from to j k c) l here) [
          | inl before ↦ inl before
          | inr now ↦ inr (record { cell = c; stands = contains_here c cs; is = now })
        ]
        | inr later ↦ inr (record { cell = later.cell; stands = contains_later later.cell c cs later.stands; is = later.is })
      ]

  pub line_is : (cells : List Cell) (l : Interruption) → best_line from to j k None cells ≡ Some l → IsOf cells l
  line_is cells l h = elim (best_is None cells l h) [ inl absent ↦ let never : None ≡ Some l = absent in absurd cc | inr of ↦ of ]

  keeps : (best : Option Interruption) (cells : List Cell) (t : Tuple) → IsNoLater best t → IsNoLater (best_line from to j k best cells) t
  keeps best [] t h = h
  keeps best (c ∷ cs) t h = keeps (lesser best (line_on from to j k c)) cs t (still best (line_on from to j k c) t h)

  takes : (best : Option Interruption) (cells : List Cell) (c : Cell) (m : Interruption) → Contains cells c → line_on from to j k c ≡ Some m
      → IsNoLater (best_line from to j k best cells) m.tuple
  takes best [] c m at is = nothing c at
  takes best (z ∷ cs) c m at is =
      elim (contains_cases z cs c at) [
        | inl here ↦
            let gives : line_on from to j k z ≡ Some m = ap (line_on from to j k) here ∙ is in
            keeps (lesser best (line_on from to j k z)) cs m.tuple (subst (λ (o : Option Interruption). IsNoLater (lesser best o) m.tuple) (sym gives) (now best m))
        | inr later ↦ takes (lesser best (line_on from to j k z)) cs c m later is
      ]

  pub has_line : (cells : List Cell) (c : Cell) (m : Interruption) → Contains cells c → line_on from to j k c ≡ Some m → IsNoLater (best_line from to j k None cells) m.tuple
  has_line cells c m at is = takes None cells c m at is
