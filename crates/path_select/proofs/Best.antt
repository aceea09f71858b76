-- The best of the first paths of a list.
use Rattle.std.specs.Prelude.{◌≡◌, ◌⊎◌, ℕ, ◌+◌, ◌<◌, ◌≤◌, List, length, true, false, Some}
use Rattle.std.specs.List.{slice_get}
use Rattle.std.proofs.lemmas.Option.{same_Some, slice_get_within}
use Rattle.std.proofs.lemmas.Bool.{cases_lt}
use Rattle.std.proofs.Common.{sym, ◌∙◌, ap, subst, arith, inl, inr, ⊎_elim}
use Rattle.path_select.specs.declared.selection.Path.{Path}
use Rattle.path_select.specs.Selection.{is_better, IsFirstOfLeast}
use Rattle.path_select.proofs.Order.{better_itself, better_than, not_better}

-- the path at a place is the first of the least of the first n
pub record IsBest (paths : List Path) (n place : ℕ) (path : Path) : Type 0 where
  pub stands : slice_get paths place ≡ Some path
  pub before : place ≤ n
  pub least : (k : ℕ) (p : Path) → slice_get paths k ≡ Some p → k < n → is_better p path ≡ false
  pub first : (k : ℕ) (p : Path) → slice_get paths k ≡ Some p → k < place → is_better path p ≡ true

pub at_start : (paths : List Path) (path : Path) → slice_get paths 0 ≡ Some path → IsBest paths 0 0 path
at_start paths path e = record {
  stands = e;
  before = omega arith;
  least = λ k p _ h. absurd (omega (arith, h));
  first = λ k p _ h. absurd (omega (arith, h));
}

last_or_before : (k n : ℕ) → k < n + 1 → (k < n) ⊎ (k ≡ n)
last_or_before k n h = ⊎_elim (λ l. inl l) (λ g. inr (omega arith)) (cases_lt k n)

module _ (paths : List Path) (n place : ℕ) (best x : Path) (b : IsBest paths n place best) (e : slice_get paths n ≡ Some x) where
  same : (k : ℕ) (p : Path) → slice_get paths k ≡ Some p → k ≡ n → p ≡ x
  same k p is at = same_Some p x (sym is ∙ ap (slice_get paths) at ∙ e)

  pub replaced : is_better x best ≡ true → IsBest paths (n + 1) n x
  replaced h = record {
    stands = e;
    before = omega arith;
    least = λ k p is lt. ⊎_elim (λ l. not_better x p best (b.least k p is l) h) (λ at. ap (λ q. is_better q x) (same k p is at) ∙ better_itself x) (last_or_before k n lt);
    first = λ k p is lt. better_than x p best (b.least k p is lt) h;
  }

  pub kept : is_better x best ≡ false → IsBest paths (n + 1) place best
  kept h = record {
    stands = b.stands;
    before = omega (arith, b.before);
    least = λ k p is lt. ⊎_elim (λ l. b.least k p is l) (λ at. ap (λ q. is_better q best) (same k p is at) ∙ h) (last_or_before k n lt);
    first = b.first;
  }

pub at_end : (paths : List Path) (n place : ℕ) (path : Path) → IsBest paths n place path → length paths ≤ n → IsFirstOfLeast paths place
at_end paths n place path b h = record {
  path = path;
  stands = b.stands;
  least = λ k p is. b.least k p is (let lt = slice_get_within paths k p is in omega (arith, lt, h));
  first = b.first;
}

pub moved : (paths : List Path) (n place place' : ℕ) (path path' : Path) → place' ≡ place → path' ≡ path → IsBest paths n place path
    → IsBest paths n place' path'
moved paths n place place' path path' e f b = subst (λ q. IsBest paths n place' q) (sym f) (subst (λ p. IsBest paths n p path) (sym e) b)
