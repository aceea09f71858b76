-- What one turn of joining regions does.
use Rattle.std.proofs.Common.{◌≡◌, ◌&&◌, ◌∷◌, ◌++◌, refl, Option, Some, None, option_map, is_none, ℕ, suc, ◌+◌, ◌-◌, ◌<◌, ◌≤◌, ltb, Bool, true, false, cond, length, List, [], ap, ◌∙◌, arith}
use Rattle.std.proofs.lemmas.Bool.Decides.{nat_tests}
use Rattle.std.specs.List.{list_all}
use Rattle.std.specs.Option.{option_map_or}
use Rattle.policy_regions.specs.Joining.{all_among, among, joined_within, joint_box}
use Rattle.policy_regions.specs.declared.region.DecidedRegion.{DecidedRegion}
use Rattle.policy_regions.specs.declared.region.Region.{Region}

is_less : (a b : ℕ) → a < b → ltb a b ≡ true
is_less a b h = grind (arith, nat_tests)

is_no_less : (a b : ℕ) → b ≤ a → ltb a b ≡ false
is_no_less a b h = grind (arith, nat_tests)

turns_left : (n m : ℕ) → m < n → n - m ≡ suc (n - (m + 1))
turns_left n m h = omega arith

pub stays : (n m : ℕ) (xs : List DecidedRegion) → m < n → length xs ≤ length (all_among [] xs) → joined_within (n - m) xs ≡ xs
stays n m xs lt le =
    ap (λ (k : ℕ). joined_within k xs) (turns_left n m lt)
    ∙ ap (λ (b : Bool). cond b (joined_within (n - (m + 1)) (all_among [] xs)) xs) (is_no_less (length (all_among [] xs)) (length xs) le)

pub goes_on : (n m : ℕ) (xs : List DecidedRegion) → m < n → length (all_among [] xs) < length xs → joined_within (n - m) xs ≡ joined_within (n - (m + 1)) (all_among [] xs)
goes_on n m xs lt fewer =
    ap (λ (k : ℕ). joined_within k xs) (turns_left n m lt)
    ∙ ap (λ (b : Bool). cond b (joined_within (n - (m + 1)) (all_among [] xs)) xs) (is_less (length (all_among [] xs)) (length xs) fewer)

-- a region that makes one box with none of others stands behind them

first_of_both : (a b : Bool) → (a && b) ≡ true → a ≡ true
first_of_both true b h = refl
first_of_both false b h = h

last_of_both : (a b : Bool) → (a && b) ≡ true → b ≡ true
last_of_both true b h = h
last_of_both false true h = refl
last_of_both false false h = h

no_joint : (f : Region → DecidedRegion) (r : DecidedRegion) (list : List DecidedRegion) (s : DecidedRegion) (o : Option Region) → is_none o ≡ true
    → option_map_or (λ b. among b list) (option_map f o) (s ∷ among r list) ≡ s ∷ among r list
no_joint f r list s None h = refl
no_joint f r list s (Some b) h = absurd cc

pub stays_behind : (r : DecidedRegion) (list : List DecidedRegion) → list_all (λ s. is_none (joint_box r s)) list ≡ true → among r list ≡ list ++ r ∷ []
stays_behind r [] h = refl
stays_behind r (s ∷ ss) h =
    let none = first_of_both (is_none (joint_box r s)) (list_all (λ q. is_none (joint_box r q)) ss) h in
    let rest = last_of_both (is_none (joint_box r s)) (list_all (λ q. is_none (joint_box r q)) ss) h in
    no_joint (λ b. record { region = b; decision = r.decision; effect = r.effect }) r ss s (joint_box r s) none
    ∙ ap (λ (list : List DecidedRegion). s ∷ list) (stays_behind r ss rest)
