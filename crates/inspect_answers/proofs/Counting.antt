-- One packet is counted as itself.
use Rattle.std.proofs.Common.{◌≡◌, ◌+◌, ◌==◌, ◌&&◌, ℕ, zero, suc, true, false, List, ◌∷◌, [], cond, not, refl, ap, ◌∙◌, arith}
use Rattle.std.proofs.lemmas.List.Sums.{sum_by-cons}
use Rattle.config_types.specs.declared.config.Config.{Config}
use Rattle.inspect_answers.specs.Expectations.{Expectation}
use Rattle.inspect_answers.specs.Expecting.{all_met, comes_so, unmet_count}

pub one_alone : (c : Config) (e : Expectation) → unmet_count c (e ∷ []) ≡ cond (not (comes_so c e)) 1 0
one_alone c e = let first = sum_by-cons (λ e. cond (not (comes_so c e)) 1 0) e [] in omega (arith, first)

none_more : (n : ℕ) → 0 + n ≡ n
none_more n = omega arith

one_more : (n : ℕ) → (1 + n == 0) ≡ false
one_more n = grind arith

-- none is counted exactly where each is met
pub none_counted : (c : Config) (es : List Expectation) → (unmet_count c es == 0) ≡ all_met c es
none_counted c [] = refl
none_counted c (e ∷ es) =
    ap (λ n. n == 0) (sum_by-cons (λ e. cond (not (comes_so c e)) 1 0) e es)
    ∙ elim (comes_so c e) as (λ b. (cond (not b) 1 0 + unmet_count c es == 0) ≡ (b && all_met c es)) [
      | true ↦ ap (λ n. n == 0) (none_more (unmet_count c es)) ∙ none_counted c es
      | false ↦ one_more (unmet_count c es)
    ]

pub not_none : (n : ℕ) → ¬ (n ≡ 0) → false ≡ (n == 0)
not_none zero h = absurd (h refl)
not_none (suc n) h = grind arith
