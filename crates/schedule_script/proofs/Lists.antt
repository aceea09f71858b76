-- Lists of which items are found by a key.
use Rattle.std.proofs.Common.{◌≡◌, ◌≢◌, ℕ, Bool, true, List, map, [], ◌∷◌, Option, Some, None, ap, arith, inl, inr, refl, subst, sym, ◌∙◌}
use Rattle.std.specs.List.{AllPairs, Any, Contains, cons_option, filter_map, list_any}
use Rattle.std.proofs.lemmas.List.Elements.{All-contains}
use Rattle.std.proofs.lemmas.List.Folds.{Any-from_list_any, list_any-from_Any}
use Rattle.ov_types.proofs.FirstLemmas.{any_of, contains_cases, contains_here, contains_later, pairs_head, pairs_tail}

-- a test finds an item exactly where one passes it
pub test_finds : {A : Type 0} (p : A → Bool) (xs : List A) → list_any p xs ≡ true → (x : A) × Contains xs x × (p x ≡ true)
test_finds p xs h =
    let some : Any (λ x. p x ≡ true) xs = Any-from_list_any p xs h in
    (some.1, (some.0, some.2, some.3), some.4)

pub test_passes : {A : Type 0} (p : A → Bool) (xs : List A) (x : A) → Contains xs x → p x ≡ true → list_any p xs ≡ true
test_passes p xs x there h = list_any-from_Any p xs (any_of (λ x. p x ≡ true) xs x there h)

module _ {A : Type 0} (key : A → Option ℕ) (n : ℕ) where
  given : (xs : List A) (x : A) → Contains xs x → key x ≡ Some n → Contains (filter_map key xs) n
  given [] x there is = absurd (omega (arith, there.1))
  given (y ∷ xs) x there is =
      elim (key y) as (λ o. key y ≡ o → Contains (cons_option o (filter_map key xs)) n) [
        | None ↦ λ e. elim (contains_cases y xs x there) [ inl same ↦ let never : None ≡ Some n = sym e ∙ ap key same ∙ is in absurd cc | inr later ↦ given xs x later is ]
        | Some m ↦ λ e. elim (contains_cases y xs x there) [
          | inl same ↦ let both : Some m ≡ Some n = sym e ∙ ap key same ∙ is in let number : m ≡ n = cc in subst (Contains (m ∷ filter_map key xs)) number (contains_here m (filter_map key xs))
          | inr later ↦ contains_later n m (filter_map key xs) (given xs x later is)
        ]
      ] refl

  -- where keys are distinct, one item has this one
  pub one_of_key : (xs : List A) → AllPairs (λ a b. a ≢ b) (filter_map key xs) → (x y : A) → Contains xs x → Contains xs y → key x ≡ Some n → key y ≡ Some n → x ≡ y
  one_of_key [] apart x y in_x in_y is_x is_y = absurd (omega (arith, in_x.1))
  one_of_key (z ∷ xs) apart x y in_x in_y is_x is_y =
      elim (contains_cases z xs x in_x) [
        | inl here ↦ elim (contains_cases z xs y in_y) [ inl there ↦ sym here ∙ there | inr later ↦ absurd (alone y later (ap key here ∙ is_x) is_y) ]
        | inr later ↦ elim (contains_cases z xs y in_y) [
          | inl here ↦ absurd (alone x later (ap key here ∙ is_y) is_x)
          | inr also ↦ one_of_key xs (rest (key z) apart) x y later also is_x is_y
        ]
      ]
    where
      Apart : List ℕ → Type 0
      Apart ns = AllPairs (λ a b. a ≢ b) ns

      rest : (o : Option ℕ) → Apart (cons_option o (filter_map key xs)) → Apart (filter_map key xs)
      rest None h = h
      rest (Some m) h = pairs_tail (λ a b. a ≢ b) m (filter_map key xs) h

      alone : (y : A) → Contains xs y → key z ≡ Some n → key y ≡ Some n → ⊥
      alone y later first also =
          let here : Apart (n ∷ filter_map key xs) = subst (λ (o : Option ℕ). Apart (cons_option o (filter_map key xs))) first apart in
          All-contains (λ m. n ≢ m) (filter_map key xs) n (pairs_head (λ a b. a ≢ b) n (filter_map key xs) here) (given xs y later also) refl

-- where the numbers of items are distinct, one item has each
module _ {A : Type 0} (number : A → ℕ) where
  numbered : (xs : List A) (x : A) → Contains xs x → Contains (map number xs) (number x)
  numbered [] x there = absurd (omega (arith, there.1))
  numbered (y ∷ xs) x there =
      elim (contains_cases y xs x there) [
        | inl same ↦ subst (λ (z : A). Contains (map number (y ∷ xs)) (number z)) same (contains_here (number y) (map number xs))
        | inr later ↦ contains_later (number x) (number y) (map number xs) (numbered xs x later)
      ]

  pub one_of_numbers : (xs : List A) → AllPairs (λ a b. a ≢ b) (map number xs) → (x y : A) → Contains xs x → Contains xs y → number x ≡ number y → x ≡ y
  one_of_numbers [] apart x y in_x in_y e = absurd (omega (arith, in_x.1))
  one_of_numbers (z ∷ xs) apart x y in_x in_y e =
      elim (contains_cases z xs x in_x) [
        | inl here ↦ elim (contains_cases z xs y in_y) [ inl there ↦ sym here ∙ there | inr later ↦ absurd (alone y later (ap number here ∙ e)) ]
        | inr later ↦ elim (contains_cases z xs y in_y) [
          | inl here ↦ absurd (alone x later (ap number here ∙ sym e))
          | inr also ↦ one_of_numbers xs (pairs_tail (λ a b. a ≢ b) (number z) (map number xs) apart) x y later also e
        ]
      ]
    where
      alone : (y : A) → Contains xs y → number z ≡ number y → ⊥
      alone y later same = All-contains (λ m. number z ≢ m) (map number xs) (number y) (pairs_head (λ a b. a ≢ b) (number z) (map number xs) apart) (numbered xs y later) same
