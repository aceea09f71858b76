-- The order of paths is strict and total.
use Rattle.std.specs.Prelude.{◌≡◌, true, false}
use Rattle.std.specs.declared.cmp.Ordering.{Ordering}
use Rattle.std.specs.declared.cmp.Ordering.TheVariants.{Less, Equal, Greater}
use Rattle.std.specs.Ordering.{nat_cmp, is_lt, ordering_reverse}
use Rattle.std.specs.Cmp.{IsTotalOrder, on_total, tied_itself}
use Rattle.std.specs.Cmp.Lexicographic.{slice_cmp, nat_list_cmp_total}
use Rattle.std.proofs.lemmas.Bool.{true≢false}
use Rattle.std.proofs.Common.{refl, sym, ◌∙◌, ap}
use Rattle.path_select.specs.declared.selection.Path.{Path}
use Rattle.path_select.specs.Selection.{numbers, is_better}

abbrev path_cmp : Path → Path → Ordering
path_cmp a b = slice_cmp nat_cmp (numbers a) (numbers b)

path_total : IsTotalOrder path_cmp
path_total = on_total numbers nat_list_cmp_total

less_is : (r : Ordering) → is_lt r ≡ true → r ≡ Less
less_is Less e = refl
less_is Equal e = absurd (true≢false (sym e))
less_is Greater e = absurd (true≢false (sym e))

pub better_itself : (a : Path) → is_better a a ≡ false
better_itself a = ap is_lt (tied_itself path_total a)

pub better_on : (a b c : Path) → is_better a b ≡ true → is_better b c ≡ true → is_better a c ≡ true
better_on a b c ab bc = ap is_lt (path_total.trans a b c (less_is (path_cmp a b) ab) (less_is (path_cmp b c) bc))

-- where b isn't better than c, and a is, a is better than b
pub better_than : (a b c : Path) → is_better b c ≡ false → is_better a c ≡ true → is_better a b ≡ true
better_than a b c bc ac = by_case (path_cmp a b) refl
  where
    by_case : (r : Ordering) → path_cmp a b ≡ r → is_better a b ≡ true
    by_case Less e = ap is_lt e
    by_case Equal e = absurd (true≢false (sym (ap is_lt (sym (path_total.congr a b c e) ∙ less_is (path_cmp a c) ac)) ∙ bc))
    by_case Greater e =
        absurd (true≢false (sym (ap is_lt (path_total.trans b a c (path_total.antisymm b a ∙ ap ordering_reverse e) (less_is (path_cmp a c) ac))) ∙ bc))

-- and then b isn't better than a
pub not_better : (a b c : Path) → is_better b c ≡ false → is_better a c ≡ true → is_better b a ≡ false
not_better a b c bc ac =
    elim (is_better b a) as (λ x. is_better b a ≡ x → x ≡ false) [
      | true ↦ λ e. absurd (true≢false (sym (better_on b a c e ac) ∙ bc))
      | false ↦ λ _. refl
    ] refl
