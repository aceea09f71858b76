-- Loops over ascending numbers: what is there so far, with what is left.
use Rattle.std.proofs.Common.{◌≡◌, ℕ, ◌<◌, ◌≤◌, ◌+◌, ◌-◌, ◌++◌, List, [], ◌∷◌, map, suc, refl, ap, sym, ◌∙◌, arith}
use Rattle.std.proofs.Common.{append_assoc}
use Rattle.std.specs.List.{range_with_len, flat_map}

-- the numbers from a to below b
abbrev pub left : ℕ → ℕ → List ℕ
left a b = range_with_len a (b - a)

one_less : (a b : ℕ) → a < b → left a b ≡ a ∷ left (a + 1) b
one_less a b h = let e : b - a ≡ suc (b - (a + 1)) = omega (arith, h) in rw e refl

none_left : (a b : ℕ) → b ≤ a → left a b ≡ []
none_left a b h = let e : b - a ≡ 0 = omega (arith, h) in rw e refl

pub numbered_goes_on : {X : Type 0} (f : ℕ → X) (items whole : List X) (x : X) (a b : ℕ) → a < b → x ≡ f a
    → items ++ map f (left a b) ≡ whole → (items ++ x ∷ []) ++ map f (left (a + 1) b) ≡ whole
numbered_goes_on f items whole x a b h e so_far =
    append_assoc items (x ∷ []) (map f (left (a + 1) b))
    ∙ ap (λ y. items ++ (y ∷ map f (left (a + 1) b))) e
    ∙ sym (ap (λ numbers. items ++ map f numbers) (one_less a b h))
    ∙ so_far

pub appended_goes_on : {X : Type 0} (f : ℕ → List X) (items whole more : List X) (a b : ℕ) → a < b → more ≡ items ++ f a
    → items ++ flat_map f (left a b) ≡ whole → more ++ flat_map f (left (a + 1) b) ≡ whole
appended_goes_on f items whole more a b h e so_far =
    ap (λ m. m ++ flat_map f (left (a + 1) b)) e
    ∙ append_assoc items (f a) (flat_map f (left (a + 1) b))
    ∙ sym (ap (λ numbers. items ++ flat_map f numbers) (one_less a b h))
    ∙ so_far
