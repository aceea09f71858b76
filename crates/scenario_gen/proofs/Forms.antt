-- Lists by number have what each of their items has, and names and numbers of scenarios are within their bounds.
use Rattle.std.proofs.Common.{◌≡◌, ℕ, ◌<◌, ◌≤◌, ◌+◌, ◌%◌, ◌&&◌, ◌^◌, Bool, true, false, not, nat_le, nat_lt, nat_eq, List, [], ◌∷◌, map, codes, zero, suc}
use Rattle.std.proofs.Common.{arith, refl, ◌∙◌}
use Rattle.std.specs.Fmt.{decimal}
use Rattle.std.specs.Cmp.Lexicographic.{pointwise}
use Rattle.std.specs.List.{list_all, range_with_len, flat_map}
use Rattle.std.proofs.lemmas.Bool.{and_parts, and_from}
use Rattle.std.proofs.lemmas.Bool.Decides.{nat_tests}
use Rattle.std.proofs.lemmas.Fmt.{decimal_by_steps}
use Rattle.std.proofs.lemmas.List.Folds.{list_all-append}
use Rattle.config_types.specs.Form.{is_from_to, is_network_name, is_node_name}
use Rattle.scenario_gen.specs.Naming.{numbered}
use Rattle.scenario_gen.proofs.Names.{numbered_is_name}

pub all_numbered : {X : Type 0} (p : X → Bool) (f : ℕ → X) (a n : ℕ) → ((k : ℕ) → k < a + n → p (f k) ≡ true)
    → list_all p (map f (range_with_len a n)) ≡ true
all_numbered p f a zero each = refl
all_numbered p f a (suc n) each =
    rw (each a (omega arith), all_numbered p f (a + 1) n (λ k small. each k (omega (arith, small)))) refl

pub all_appended : {X : Type 0} (p : X → Bool) (f : ℕ → List X) (a n : ℕ) → ((k : ℕ) → k < a + n → list_all p (f k) ≡ true)
    → list_all p (flat_map f (range_with_len a n)) ≡ true
all_appended p f a zero each = refl
all_appended p f a (suc n) each =
    list_all-append p (f a) (flat_map f (range_with_len (a + 1) n))
    ∙ rw (each a (omega arith), all_appended p f (a + 1) n (λ k small. each k (omega (arith, small)))) refl

-- no digit is a letter
digits : (n : ℕ) → n < 2 ^ 64 → list_all (λ c. nat_lt c 58) (decimal n) ≡ true
digits n h =
    decimal_by_steps (λ n ds. list_all (λ c. nat_lt c 58) ds ≡ true)
    (λ n small. grind (arith, nat_tests))
    (λ n ds big front. list_all-append (λ c. nat_lt c 58) ds ((48 + n % 10) ∷ []) ∙ rw front (last (n % 10) (omega arith)))
    n h
  where
    last : (d : ℕ) → d < 10 → (nat_lt (48 + d) 58 && true) ≡ true
    last d small = grind (arith, nat_tests)

begins_otherwise : (ds rest : List ℕ) (letter : ℕ) → 58 ≤ letter → list_all (λ c. nat_lt c 58) ds ≡ true → pointwise nat_eq ds (letter ∷ rest) ≡ false
begins_otherwise [] rest letter h all = refl
begins_otherwise (d ∷ ds) rest letter h all =
    let p = and_parts (nat_lt d 58) (list_all (λ c. nat_lt c 58) ds) all in
    rw (other d letter h p.0) refl
  where
    other : (d letter : ℕ) → 58 ≤ letter → nat_lt d 58 ≡ true → nat_eq d letter ≡ false
    other d letter h small = grind (arith, nat_tests)

is_other : {x y : Bool} → x ≡ true → y ≡ false → (x && not y) ≡ true
is_other x y = rw (x, y) refl

pub application_is_no_any : (n : ℕ) → n < 2 ^ 16 → is_network_name (numbered (codes "a") n) ≡ true
application_is_no_any n h =
    is_other (numbered_is_name (codes "a") n refl (omega arith) h) (begins_otherwise (decimal n) (codes "y") 110 (omega arith) (digits n (omega (arith, h))))

pub controller_is_no_config : (n : ℕ) → n < 2 ^ 16 → is_node_name (numbered (codes "c") n) ≡ true
controller_is_no_config n h =
    is_other (numbered_is_name (codes "c") n refl (omega arith) h) (begins_otherwise (decimal n) (codes "nfig") 111 (omega arith) (digits n (omega (arith, h))))

pub within : (low high n : ℕ) → low ≤ n → n ≤ high → is_from_to low high n ≡ true
within low high n a b = grind (arith, nat_tests)

pub at_most : (high n : ℕ) → n ≤ high → nat_le n high ≡ true
at_most high n h = grind (arith, nat_tests)

pub both : {x y : Bool} → x ≡ true → y ≡ true → (x && y) ≡ true
both {x} {y} a b = and_from x y a b

-- the last of a list
pub last : {x : Bool} → x ≡ true → (x && true) ≡ true
last a = both a refl
