-- One step along a list, of what is asked of all its items.
use Rattle.std.specs.Prelude.{◌≡◌, ◌+◌, ◌<◌, ◌≤◌, ◌++◌, ℕ, List, [], ◌∷◌, length, drop, max, Bool, true, false, cond, ◌&&◌}
use Rattle.std.specs.declared.option.Option.{Option}
use Rattle.std.specs.declared.option.Option.TheVariants.{Some, None}
use Rattle.std.specs.Option.{option_to_list}
use Rattle.std.specs.List.{cons_option, list_all}
use Rattle.std.proofs.Common.{refl, ◌∙◌, ap, arith, get_or}
use Rattle.std.proofs.lemmas.List.{append-nil, append_assoc, at_drop_more, drop_all}
use Rattle.transform_model.specs.Uses.{ConfiguredUse}
use Rattle.running_nodes.specs.MachineModel.Setup.{longest_of}
use Rattle.net_machine.specs.declared.ends.SessionEnds.{SessionEnds}
use Rattle.net_machine.specs.Longest.{services_in}
use Rattle.net_machine.specs.Seating.{is_earlier, same_ends, turned}

-- ---- all pass a test
pub all_on : {X : Type 0} (test : X → Bool) (xs : List X) (i : ℕ) (d : X) → i < length xs → test (get_or xs i d) ≡ true
    → list_all test (drop i xs) ≡ list_all test (drop (i + 1) xs)
all_on test xs i d h is =
    at_drop_more (list_all test) xs i d h ∙ ap (λ b. b && list_all test (drop (i + 1) xs)) is

pub not_all : {X : Type 0} (test : X → Bool) (xs : List X) (i : ℕ) (d : X) → i < length xs → test (get_or xs i d) ≡ false
    → list_all test (drop i xs) ≡ false
not_all test xs i d h is =
    at_drop_more (list_all test) xs i d h ∙ ap (λ b. b && list_all test (drop (i + 1) xs)) is

pub all_passed : {X : Type 0} (test : X → Bool) (xs : List X) (i : ℕ) → length xs ≤ i → list_all test (drop i xs) ≡ true
all_passed test xs i h = ap (list_all test) (drop_all i xs h)

-- ---- which end is the earlier
pub earlier_on : (order : List SessionEnds) (i : ℕ) (e d : SessionEnds) → i < length order
    → same_ends (get_or order i d) e ≡ false → same_ends (get_or order i d) (turned e) ≡ false
    → is_earlier (drop i order) e ≡ is_earlier (drop (i + 1) order) e
earlier_on order i e d h is back =
    at_drop_more (λ ds. is_earlier ds e) order i d h
    ∙ (λ j. cond (is j) true (cond (back j) false (is_earlier (drop (i + 1) order) e)))

pub earlier_here : (order : List SessionEnds) (i : ℕ) (e d : SessionEnds) → i < length order
    → same_ends (get_or order i d) e ≡ true → is_earlier (drop i order) e ≡ true
earlier_here order i e d h is =
    at_drop_more (λ ds. is_earlier ds e) order i d h
    ∙ (λ j. cond (is j) true (cond (same_ends (get_or order i d) (turned e)) false (is_earlier (drop (i + 1) order) e)))

pub later_here : (order : List SessionEnds) (i : ℕ) (e d : SessionEnds) → i < length order
    → same_ends (get_or order i d) e ≡ false → same_ends (get_or order i d) (turned e) ≡ true
    → is_earlier (drop i order) e ≡ false
later_here order i e d h is back =
    at_drop_more (λ ds. is_earlier ds e) order i d h
    ∙ (λ j. cond (is j) true (cond (back j) false (is_earlier (drop (i + 1) order) e)))

-- ---- one more, where there is one
pub one_more : {X : Type 0} (xs : List X) (o : Option X) (ys : List X) → (xs ++ option_to_list o) ++ ys ≡ xs ++ cons_option o ys
one_more xs None ys = ap (λ zs. zs ++ ys) (append-nil xs)
one_more xs (Some x) ys = append_assoc xs (x ∷ []) ys

-- ---- the longest use
pub longest_more : (o : Option ConfiguredUse) (us : List ConfiguredUse) (m n : ℕ) → n ≡ max (services_in o) m
    → max n (longest_of us) ≡ max m (longest_of (cons_option o us))
longest_more None us m n e = omega (arith, e)
longest_more (Some u) us m n e = omega (arith, e)

pub longest_both : (us vs : List ConfiguredUse) (m n : ℕ) → n ≡ max (longest_of us) m
    → max n (longest_of vs) ≡ max m (longest_of (us ++ vs))
longest_both [] vs m n e = omega (arith, e)
longest_both (u ∷ us) vs m n e =
    let h = longest_both us vs m (max (longest_of us) m) refl in omega (arith, e, h)
