-- How octets are found in a text of digits.
use Rattle.std.proofs.Common.{◌≡◌, ◌≤◌, ◌==◌, ◌||◌, ◌+◌, ◌*◌, ◌%◌, not, if◌then◌else◌, Bool, true, false, ℕ, suc, List, [], ◌∷◌, ◌++◌, length, take, drop, ◌-◌, slice_index_or, Option, Some, None, Result, Ok, Err, refl, ap, sym, ◌∙◌, subst, arith}
use Rattle.std.proofs.lemmas.List.{append-nil}
use Rattle.std.proofs.lemmas.Bool.{eqb-true}
use Rattle.std.specs.Result.{result_ok}
use Rattle.std.specs.Option.{option_map}
use Rattle.hex.specs.Hex.{decode_pairs, digit_or_error, hex_digit_value, ◌>>=◌}
use Rattle.hex.specs.declared.error.FromHexError.{FromHexError}
use Rattle.hex.specs.declared.error.FromHexError.TheVariants.{OddLength}
use Rattle.decode_answers.specs.Decoding.{is_blank, spelled, without_blanks}
use Rattle.decode_answers.specs.Digits.{octet_of, pair_octet, BeginsPlainly, BeginsWithOctet}

-- an octet before others
abbrev joined : Option ℕ → Option (List ℕ) → Option (List ℕ)
joined (Some octet) (Some octets) = Some (octet ∷ octets)
joined (Some octet) None = None
joined None octets = None

-- the octets of digits, pair by pair
abbrev pairs : List ℕ → Option (List ℕ)
pairs [] = Some []
pairs (digit ∷ []) = None
pairs (high ∷ low ∷ rest) = joined (pair_octet high low) (pairs rest)

joined_none : (o : Option ℕ) → joined o None ≡ None
joined_none (Some x) = refl
joined_none None = refl

joined_some : (octet : ℕ) (o : Option (List ℕ)) → joined (Some octet) o ≡ option_map (λ octets. octet ∷ octets) o
joined_some octet (Some x) = refl
joined_some octet None = refl

one_pair : (i high low : ℕ) (h l : Option ℕ) (r : Result (List ℕ) FromHexError)
    → result_ok ((digit_or_error high i h >>= (λ x. digit_or_error low (i + 1) l >>= (λ y. Ok (x * 16 + y)))) >>= (λ byte. r >>= (λ bytes. Ok (byte ∷ bytes))))
    ≡ joined (octet_of h l) (result_ok r)
one_pair i high low (Some x) (Some y) (Ok z) = refl
one_pair i high low (Some x) (Some y) (Err e) = refl
one_pair i high low (Some x) None r = refl
one_pair i high low None l r = refl

-- where a digit stands says nothing of what pairs spell
pairs_are : (i : ℕ) (digits : List ℕ) → result_ok (decode_pairs i digits) ≡ pairs digits
unfolding decode_pairs
pairs_are i [] = refl
pairs_are i (digit ∷ []) = refl
pairs_are i (high ∷ low ∷ rest) =
    one_pair i high low (hex_digit_value high) (hex_digit_value low) (decode_pairs (i + 2) rest)
    ∙ ap (joined (pair_octet high low)) (pairs_are (i + 2) rest)

same_parity : (n : ℕ) → (suc (suc n) % 2 == 1) ≡ (n % 2 == 1)
same_parity n =
    let e : suc (suc n) % 2 ≡ n % 2 = omega arith in
    ap (λ (k : ℕ). k == 1) e

odd_are_none : (digits : List ℕ) → (length digits % 2 == 1) ≡ true → pairs digits ≡ None
odd_are_none [] e = absurd cc
odd_are_none (digit ∷ []) e = refl
odd_are_none (high ∷ low ∷ rest) e =
    ap (joined (pair_octet high low)) (odd_are_none rest (sym (same_parity (length rest)) ∙ e)) ∙ joined_none (pair_octet high low)

by_parity : (digits : List ℕ) (odd : Bool) → (length digits % 2 == 1) ≡ odd
    → result_ok (if odd then Err OddLength else decode_pairs 0 digits) ≡ pairs digits
by_parity digits true e = sym (odd_are_none digits e)
by_parity digits false e = pairs_are 0 digits

spelled_pairs : (text : List ℕ) → spelled text ≡ pairs (without_blanks text)
unfolding spelled
spelled_pairs text = by_parity (without_blanks text) (length (without_blanks text) % 2 == 1) refl

-- blanks

from_or : (a b : Bool) (P : Type 0) → (a ≡ true → P) → (b ≡ true → P) → (a || b) ≡ true → P
from_or true b P f g h = f refl
from_or false b P f g h = g h

not_at : (c k : ℕ) → hex_digit_value k ≡ None → (c == k) ≡ true → hex_digit_value c ≡ None
not_at c k e is = ap hex_digit_value (eqb-true c k is) ∙ e

blank_is_no_digit : (c : ℕ) → is_blank c ≡ true → hex_digit_value c ≡ None
blank_is_no_digit c h =
    from_or (c == 32) (c == 9 || (c == 10 || c == 13)) (hex_digit_value c ≡ None) (not_at c 32 refl)
    (from_or (c == 9) (c == 10 || c == 13) (hex_digit_value c ≡ None) (not_at c 9 refl)
    (from_or (c == 10) (c == 13) (hex_digit_value c ≡ None) (not_at c 10 refl) (not_at c 13 refl))) h

plain_from : (c v : ℕ) (blank : Bool) → is_blank c ≡ blank → hex_digit_value c ≡ Some v → is_blank c ≡ false
plain_from c v true is e = let none = blank_is_no_digit c is in absurd cc
plain_from c v false is e = is

-- a digit is no blank
digit_is_plain : (c v : ℕ) → hex_digit_value c ≡ Some v → is_blank c ≡ false
digit_is_plain c v e = plain_from c v (is_blank c) refl e

plain_stays : (c : ℕ) (rest : List ℕ) → is_blank c ≡ false → without_blanks (c ∷ rest) ≡ c ∷ without_blanks rest
plain_stays c rest e = ap (λ (b : Bool). if not b then c ∷ without_blanks rest else without_blanks rest) e

-- fronts

two_digits : (text after : List ℕ) (high low octet : ℕ) → without_blanks text ≡ high ∷ low ∷ without_blanks after → pair_octet high low ≡ Some octet
    → spelled text ≡ option_map (λ octets. octet ∷ octets) (spelled after)
two_digits text after high low octet e is =
    spelled_pairs text ∙ ap pairs e ∙ ap (λ (o : Option ℕ). joined o (pairs (without_blanks after))) is
    ∙ joined_some octet (pairs (without_blanks after)) ∙ ap (option_map (λ octets. octet ∷ octets)) (sym (spelled_pairs after))

plain_pair : (high low octet : ℕ) (h l : Option ℕ) → hex_digit_value high ≡ h → hex_digit_value low ≡ l → octet_of h l ≡ Some octet
    → (is_blank high ≡ false) × (is_blank low ≡ false)
plain_pair high low octet (Some x) (Some y) a b e = (digit_is_plain high x a, digit_is_plain low y b)
plain_pair high low octet (Some x) None a b e = absurd cc
plain_pair high low octet None l a b e = absurd cc

-- a text that begins with two digits
pub begins_with_pair : (text after : List ℕ) (high low octet : ℕ) → text ≡ high ∷ low ∷ after → pair_octet high low ≡ Some octet
    → BeginsWithOctet text octet after
begins_with_pair text after high low octet e is =
    let plain = plain_pair high low octet (hex_digit_value high) (hex_digit_value low) refl refl is in
    let digits : without_blanks text ≡ high ∷ low ∷ without_blanks after =
    ap without_blanks e ∙ plain_stays high (low ∷ after) plain.0 ∙ ap (λ (t : List ℕ). high ∷ t) (plain_stays low after plain.1) in
    let longer : length text ≡ suc (suc (length after)) = ap length e in
    record { spells = two_digits text after high low octet digits is; shorter = omega arith }

-- behind blanks stands this, and behind this and blanks that
first_digit : (text front behind : List ℕ) (high : ℕ) → without_blanks front ≡ without_blanks text → BeginsPlainly front → front ≡ high ∷ behind
    → without_blanks text ≡ high ∷ without_blanks behind
first_digit text front behind high same plain e =
    let first : is_blank high ≡ false = subst (λ (t : List ℕ). BeginsPlainly t) e plain in
    sym same ∙ ap without_blanks e ∙ plain_stays high behind first

pub digits_among_blanks : (text front behind middle after : List ℕ) (high low : ℕ) → without_blanks front ≡ without_blanks text → BeginsPlainly front
    → front ≡ high ∷ behind → without_blanks middle ≡ without_blanks behind → BeginsPlainly middle → middle ≡ low ∷ after
    → without_blanks text ≡ high ∷ low ∷ without_blanks after
digits_among_blanks text front behind middle after high low same plain e other clear d =
    first_digit text front behind high same plain e ∙ ap (λ (t : List ℕ). high ∷ t) (first_digit behind middle after low other clear d)

pub pair_among_blanks : (text front behind middle after : List ℕ) (high low octet : ℕ) → without_blanks text ≡ high ∷ low ∷ without_blanks after
    → length front ≤ length text → front ≡ high ∷ behind → length middle ≤ length behind → middle ≡ low ∷ after → pair_octet high low ≡ Some octet
    → BeginsWithOctet text octet after
pair_among_blanks text front behind middle after high low octet digits short e shorter d is =
    let a : length front ≡ suc (length behind) = ap length e in
    let b : length middle ≡ suc (length after) = ap length d in
    record { spells = two_digits text after high low octet digits is; shorter = omega arith }

pub no_pair : (text rest : List ℕ) (high low : ℕ) → without_blanks text ≡ high ∷ low ∷ rest → pair_octet high low ≡ None → spelled text ≡ None
no_pair text rest high low e is = spelled_pairs text ∙ ap pairs e ∙ ap (λ (o : Option ℕ). joined o (pairs rest)) is

pub one_digit : (text front behind middle : List ℕ) (high : ℕ) → without_blanks front ≡ without_blanks text → BeginsPlainly front
    → front ≡ high ∷ behind → without_blanks middle ≡ without_blanks behind → middle ≡ [] → spelled text ≡ None
one_digit text front behind middle high same plain e other none =
    let left : without_blanks behind ≡ [] = sym other ∙ ap without_blanks none in
    spelled_pairs text ∙ ap pairs (first_digit text front behind high same plain e ∙ ap (λ (t : List ℕ). high ∷ t) left)

pub no_digit : (text front : List ℕ) → without_blanks front ≡ without_blanks text → front ≡ [] → spelled text ≡ Some []
no_digit text front same none = spelled_pairs text ∙ ap pairs (sym same ∙ ap without_blanks none)

-- octets that were found, and those that the rest spells

pub all_found : (whole : Option (List ℕ)) (octets rest : List ℕ) → whole ≡ option_map (λ more. octets ++ more) (spelled rest)
    → spelled rest ≡ Some [] → Some octets ≡ whole
all_found whole octets rest so none =
    sym (so ∙ ap (option_map (λ more. octets ++ more)) none ∙ ap Some (append-nil octets))

-- nothing spells nothing
pub nothing_spelled : (rest : List ℕ) → (length rest == 0) ≡ true → spelled rest ≡ Some []
nothing_spelled [] e = spelled_pairs [] ∙ refl
nothing_spelled (x ∷ rest) e = let n : suc (length rest) ≡ 0 = eqb-true (suc (length rest)) 0 e in absurd (omega (arith, n))

-- slices

take_all : (xs : List ℕ) → take (length xs) xs ≡ xs
take_all [] = refl
take_all (x ∷ xs) = ap (λ (t : List ℕ). x ∷ t) (take_all xs)

-- octets of which there is one, and those behind it
pub split_first : (xs : List ℕ) → (length xs == 0) ≡ false → xs ≡ slice_index_or xs 0 0 ∷ take (length xs - 1) (drop 1 xs)
split_first [] e = absurd cc
split_first (x ∷ xs) e =
    let n : suc (length xs) - 1 ≡ length xs = omega arith in
    ap (λ (t : List ℕ). x ∷ t) (sym (ap (λ (k : ℕ). take k xs) n ∙ take_all xs))

pub split_two : (xs : List ℕ) → 2 ≤ length xs → xs ≡ slice_index_or xs 0 0 ∷ slice_index_or xs 1 0 ∷ take (length xs - 2) (drop 2 xs)
split_two [] h = absurd (omega (arith, h))
split_two (x ∷ []) h = absurd (omega (arith, h))
split_two (x ∷ y ∷ xs) h =
    let n : suc (suc (length xs)) - 2 ≡ length xs = omega arith in
    ap (λ (t : List ℕ). x ∷ y ∷ t) (sym (ap (λ (k : ℕ). take k xs) n ∙ take_all xs))

pub is_nothing : (xs : List ℕ) → (length xs == 0) ≡ true → xs ≡ []
is_nothing [] e = refl
is_nothing (x ∷ xs) e = let n : suc (length xs) ≡ 0 = eqb-true (suc (length xs)) 0 e in absurd (omega (arith, n))
