-- Two lists of borrowed values, compared one by one.
use Rattle.std.proofs.Common.{◌≡◌, ◌&&◌, ◌==◌, ℕ, suc, Bool, true, List, [], ◌∷◌, length, map, refl, sym, ap, ◌∙◌, arith}
use Rattle.std.specs.List.{list_all, zip}

equal : (m n : ℕ) → m ≡ n → (m == n) ≡ true
equal m n h = grind arith

module _ {A B : Type 0} (seen : A → B) where
  as_long : (xs : List A) → length (map seen xs) ≡ length xs
  as_long [] = refl
  as_long (x ∷ xs) = ap suc (as_long xs)

  all_zipped : (same : B → B → Bool) (xs ys : List A) → list_all (λ p. same (seen p.0) (seen p.1)) (zip xs ys) ≡ list_all (λ p. same p.0 p.1) (zip (map seen xs) (map seen ys))
  all_zipped same [] ys = refl
  all_zipped same (x ∷ xs) [] = refl
  all_zipped same (x ∷ xs) (y ∷ ys) = ap (λ (b : Bool). same (seen x) (seen y) && b) (all_zipped same xs ys)

  pub all_same : (same : B → B → Bool) (xs ys : List A) → length xs ≡ length ys
      → list_all (λ p. same (seen p.0) (seen p.1)) (zip xs ys)
      ≡ ((length (map seen xs) == length (map seen ys)) && list_all (λ p. same p.0 p.1) (zip (map seen xs) (map seen ys)))
  all_same same xs ys h =
      all_zipped same xs ys
      ∙ ap (λ (b : Bool). b && list_all (λ p. same p.0 p.1) (zip (map seen xs) (map seen ys)))
      (sym (equal (length (map seen xs)) (length (map seen ys)) (as_long xs ∙ h ∙ sym (as_long ys))))
