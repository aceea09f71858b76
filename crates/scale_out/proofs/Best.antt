-- The best of the first members of a list, as a loop keeps it.
use Rattle.std.proofs.Common.{◌≡◌, ℕ, ◌+◌, ◌<◌, ◌≤◌, ◌⊎◌, inl, inr, ⊎_elim, List, length, get_or, sym, ◌∙◌, ap, subst, arith}
use Rattle.std.specs.List.{All, AllPairs, Contains}
use Rattle.std.proofs.lemmas.Bool.{cases_lt}
use Rattle.scale_out.specs.Choice.{score}

-- one of the members has the greatest score of the first n, and each before it has a lesser one
pub record IsBest (members : List ℕ) (key n best : ℕ) : Type 0 where
  pub place : ℕ
  pub within : place < length members
  pub there : (d : ℕ) → get_or members place d ≡ best
  pub early : place ≤ n
  pub greatest : (k d : ℕ) → k < n → score key (get_or members k d) ≤ score key best
  pub first : (k d : ℕ) → k < place → score key (get_or members k d) < score key best

pub at_start : (members : List ℕ) (key best : ℕ) → 0 < length members → ((d : ℕ) → get_or members 0 d ≡ best) → IsBest members key 0 best
at_start members key best some there = record {
  place = 0;
  within = some;
  there = there;
  early = omega arith;
  greatest = λ k d h. absurd (omega (arith, h));
  first = λ k d h. absurd (omega (arith, h));
}

last_or_before : (k n : ℕ) → k < n + 1 → (k < n) ⊎ (k ≡ n)
last_or_before k n h = ⊎_elim (λ l. inl l) (λ g. inr (omega arith)) (cases_lt k n)

module _ (members : List ℕ) (key n best x : ℕ) (b : IsBest members key n best) (within : n < length members) (there : (d : ℕ) → get_or members n d ≡ x) where
  at : (k d : ℕ) → k ≡ n → score key (get_or members k d) ≡ score key x
  at k d same = ap (λ i. score key (get_or members i d)) same ∙ ap (score key) (there d)

  pub takes : score key best < score key x → IsBest members key (n + 1) x
  takes greater = record {
    place = n;
    within = within;
    there = there;
    early = omega arith;
    greatest = λ k d h. ⊎_elim (λ l. let below = b.greatest k d l in omega (arith, below, greater)) (λ same. let is = at k d same in omega (arith, is)) (last_or_before k n h);
    first = λ k d h. let below = b.greatest k d h in omega (arith, below, greater);
  }

  pub keeps : score key x ≤ score key best → IsBest members key (n + 1) best
  keeps lesser = record {
    place = b.place;
    within = b.within;
    there = b.there;
    early = omega (arith, b.early);
    greatest = λ k d h. ⊎_elim (λ l. b.greatest k d l) (λ same. let is = at k d same in omega (arith, is, lesser)) (last_or_before k n h);
    first = b.first;
  }

pub moved : (members : List ℕ) (key n best now : ℕ) → now ≡ best → IsBest members key n best → IsBest members key n now
moved members key n best now e b = let P : ℕ → Type 0 = λ m. IsBest members key n m in subst P (sym e) b

module _ (members : List ℕ) (key n best : ℕ) (b : IsBest members key n best) (all : length members ≤ n) where
  pub is_member : Contains members best
  is_member = (b.place, b.within, b.there best)

  pub is_greatest : All (λ m. score key m ≤ score key best) members
  is_greatest = λ k d h. b.greatest k d (omega (arith, h, all))

  pub is_least : AllPairs (λ x y. x < y) members → All (λ m. score key m ≡ score key best → best ≤ m) members
  is_least ascending = λ k d h same.
      ⊎_elim
      (λ before. let lesser = b.first k d before in absurd (omega (arith, lesser, same)))
      (λ after. ⊎_elim
      (λ later. let less = ascending b.place k d later h in let is = b.there d in omega (arith, less, is))
      (λ not_later. let here : k ≡ b.place = omega (arith, after, not_later) in let is : get_or members k d ≡ best = ap (λ i. get_or members i d) here ∙ b.there d in omega (arith, is))
      (cases_lt b.place k))
      (cases_lt k b.place)
