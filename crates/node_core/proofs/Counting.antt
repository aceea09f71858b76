-- Sends that are counted in two parts.
use Rattle.std.proofs.Common.{◌≡◌, ℕ, zero, suc, ◌+◌, List, Bool, true, false, ◌&&◌, sym, ◌∙◌, ap, refl, subst}
use Rattle.std.proofs.Common.{add-zero, add-suc}
use Rattle.std.specs.Prelude.{IsTrue, not, if◌then◌else◌}
use Rattle.std.specs.declared.option.Option.{Option}
use Rattle.std.specs.declared.option.Option.TheVariants.{Some, None}
use Rattle.std.specs.Option.{IfSome, option_map}
use Rattle.ov_link.specs.Breaks.{is_break, counted}
use Rattle.ov_link.specs.Delivery.{Counts, all_pass, counted_by}

and_true : (a : Bool) → a ≡ (a && true)
and_true true = refl
and_true false = refl

and_more : (a b c : Bool) → ((a && b) && c) ≡ (a && (b && c))
and_more true b c = refl
and_more false b c = refl

both_true : (a b : Bool) → IsTrue a → IsTrue b → IsTrue (a && b)
both_true true b h k = k
both_true false b h k = h

counted_by-add : (m n : ℕ) (breaks : List ℕ) → counted_by (m + n) breaks ≡ counted_by n (counted_by m breaks)
counted_by-add m zero breaks = ap (λ k. counted_by k breaks) (add-zero m)
counted_by-add m (suc n) breaks = ap (λ k. counted_by k breaks) (add-suc m n) ∙ ap counted (counted_by-add m n breaks)

all_pass-add : (m n : ℕ) (breaks : List ℕ)
    → all_pass (m + n) breaks ≡ (all_pass m breaks && all_pass n (counted_by m breaks))
all_pass-add m zero breaks = ap (λ k. all_pass k breaks) (add-zero m) ∙ and_true (all_pass m breaks)
all_pass-add m (suc n) breaks =
    ap (λ k. all_pass k breaks) (add-suc m n)
    ∙ ap (λ b. b && not (is_break (counted_by (m + n) breaks) 1)) (all_pass-add m n breaks)
    ∙ ap (λ l. (all_pass m breaks && all_pass n (counted_by m breaks)) && not (is_break l 1)) (counted_by-add m n breaks)
    ∙ and_more (all_pass m breaks) (all_pass n (counted_by m breaks)) (not (is_break (counted_by n (counted_by m breaks)) 1))

left_after : (failed : Bool) (m n : ℕ) (breaks : List ℕ)
    → counted_by (if failed then suc n else n) (counted_by m breaks)
    ≡ counted_by (if failed then suc (m + n) else m + n) breaks
left_after true m n breaks = ap counted (sym (counted_by-add m n breaks))
left_after false m n breaks = sym (counted_by-add m n breaks)

pub counts_both : (m n : ℕ) (failed : Bool) (x y z : Option (List ℕ)) → Counts m false x y → Counts n failed y z
    → Counts (m + n) failed x z
counts_both m n failed None y z p q = record {
  passed = tt;
  met = λ _. tt;
  left = q.left ∙ ap (option_map (counted_by (if failed then suc n else n))) p.left;
}
counts_both m n failed (Some breaks) y z p q = record {
  passed = ap (λ b. b) (all_pass-add m n breaks)
      ∙ both_true (all_pass m breaks) (all_pass n (counted_by m breaks)) p.passed
      (subst (λ o. IfSome o (λ l. IsTrue (all_pass n l))) p.left q.passed);
  met = λ e. ap (λ l. is_break l 1) (counted_by-add m n breaks)
      ∙ subst (λ o. IfSome o (λ l. IsTrue (is_break (counted_by n l) 1))) p.left (q.met e);
  left = q.left ∙ ap (option_map (counted_by (if failed then suc n else n))) p.left
      ∙ ap (λ l. Some l) (left_after failed m n breaks);
}

none_counted : (breaks : Option (List ℕ)) → option_map (counted_by zero) breaks ≡ breaks
none_counted None = refl
none_counted (Some breaks) = refl

-- where nothing was sent after a failed send, the sends are those before
pub counts_first : (m : ℕ) (x y z : Option (List ℕ)) → Counts m true x y → Counts zero false y z → Counts m true x z
counts_first m x y z p q = record {
  passed = p.passed;
  met = p.met;
  left = q.left ∙ none_counted y ∙ p.left;
}
