-- A word with a number behind it is a name.
use Rattle.std.proofs.Common.{◌≡◌, ℕ, ◌<◌, ◌≤◌, ◌+◌, ◌%◌, ◌&&◌, ◌^◌, true, ltb, IsTrue, List, [], ◌∷◌, length}
use Rattle.std.proofs.Common.{arith, refl, ◌∙◌, length-append}
use Rattle.std.specs.Fmt.{decimal}
use Rattle.std.specs.List.{list_all}
use Rattle.std.proofs.lemmas.Bool.{and_parts, lt-ltb}
use Rattle.std.proofs.lemmas.Bool.Decides.{nat_tests}
use Rattle.std.proofs.lemmas.Fmt.{decimal_by_steps, length-decimal-le}
use Rattle.std.proofs.lemmas.List.Folds.{list_all-append}
use Rattle.ov_types.specs.Name.{is_name, is_name_octet_of}
use Rattle.scenario_gen.specs.Naming.{numbered}

digit : (d : ℕ) → d < 10 → is_name_octet_of (48 + d) ≡ true
digit d h = grind (arith, nat_tests)

pub digits_are_plain : (n : ℕ) → n < 2 ^ 64 → list_all is_name_octet_of (decimal n) ≡ true
digits_are_plain n h =
    decimal_by_steps (λ n ds. list_all is_name_octet_of ds ≡ true)
    (λ n small. rw (digit n small) refl)
    (λ n ds big front. list_all-append is_name_octet_of ds ((48 + n % 10) ∷ []) ∙ rw (front, digit (n % 10) (omega arith)) refl)
    n h

-- words of up to 27 octets and numbers of 16 bits
pub numbered_is_name : (word : List ℕ) (n : ℕ) → IsTrue (is_name word) → length word ≤ 27 → n < 2 ^ 16 → is_name (numbered word n) ≡ true
numbered_is_name word n h short small =
    let p = and_parts (ltb 0 (length word) && ltb (length word) 33) (list_all is_name_octet_of word) h in
    let q = and_parts (ltb 0 (length word)) (ltb (length word) 33) p.0 in
    let size : length (numbered word n) ≡ length word + length (decimal n) = length-append word (decimal n) in
    let five : length (decimal n) ≤ 5 = length-decimal-le 5 n (omega arith) (omega arith) (omega arith) in
    rw (
      lt-ltb 0 (length (numbered word n)) (grind (arith, nat_tests, size, q.0)),
      lt-ltb (length (numbered word n)) 33 (omega (arith, size, five, short)),
      list_all-append is_name_octet_of word (decimal n),
      p.1,
      digits_are_plain n (omega arith),
    ) refl
