-- Texts of names, numbers, addresses and prefixes are plain: they have no blank, and are US-ASCII.
use Rattle.std.proofs.Common.{◌≡◌, ℕ, ◌+◌, ◌/◌, ◌%◌, ◌^◌, ◌<◌, ◌&&◌, Bool, true, IsTrue, nat_lt, List, [], ◌∷◌, refl, ◌∙◌, arith, decimal}
use Rattle.std.specs.List.{list_all}
use Rattle.std.specs.Str.{IsAscii, IsUtf8}
use Rattle.std.proofs.lemmas.Bool.{and_parts, ltb-true}
use Rattle.std.proofs.lemmas.Bool.Decides.{nat_tests}
use Rattle.std.proofs.lemmas.Fmt.{decimal_by_steps}
use Rattle.std.proofs.lemmas.List.Folds.{list_all-append}
use Rattle.std.proofs.lemmas.Str.{IsUtf8-from_ascii}
use Rattle.std.proofs.lemmas.Str.Ascii.{IsAscii-nil, IsAscii-cons}
use Rattle.ov_types.specs.Name.{is_name, is_name_octet_of}
use Rattle.ov_types.specs.Prefix.{Block}
use Rattle.ov_types.specs.Rows.{rule_text}
use Rattle.ov_types.specs.Texts.{address_text, prefix_text}
use Rattle.ov_types.specs.declared.packet.RuleNo.{RuleNo}
use Rattle.ov_types.proofs.Names.{form_of}

-- behind the blank, and of US-ASCII
abbrev pub plain : ℕ → Bool
plain c = nat_lt 32 c && nat_lt c 128

abbrev pub IsPlain : List ℕ → Type 0
IsPlain text = list_all plain text ≡ true

octet_is_plain : (c : ℕ) → is_name_octet_of c ≡ true → plain c ≡ true
octet_is_plain c h = grind (arith, nat_tests)

octets_are_plain : (text : List ℕ) → list_all is_name_octet_of text ≡ true → IsPlain text
octets_are_plain [] h = refl
octets_are_plain (c ∷ text) h =
    let p = and_parts (is_name_octet_of c) (list_all is_name_octet_of text) h in
    rw (octet_is_plain c p.0, octets_are_plain text p.1) refl

pub name_is_plain : (text : List ℕ) → IsTrue (is_name text) → IsPlain text
name_is_plain text h = octets_are_plain text (form_of text h).octets

digit_is_plain : (d : ℕ) → d < 10 → plain (48 + d) ≡ true
digit_is_plain d h = grind (arith, nat_tests)

pub decimal_is_plain : (n : ℕ) → n < 2 ^ 64 → IsPlain (decimal n)
decimal_is_plain n h =
    decimal_by_steps (λ n ds. list_all plain ds ≡ true)
    (λ n small. rw (digit_is_plain n small) refl)
    (λ n ds big front. list_all-append plain ds ((48 + n % 10) ∷ []) ∙ rw (front, digit_is_plain (n % 10) (omega arith)) refl)
    n h

pub address_is_plain : (n : ℕ) → IsPlain (address_text n)
address_is_plain n =
    let a : list_all plain (decimal (n / 16777216 % 256)) ≡ true = decimal_is_plain (n / 16777216 % 256) (omega arith) in
    let b : list_all plain (decimal (n / 65536 % 256)) ≡ true = decimal_is_plain (n / 65536 % 256) (omega arith) in
    let c : list_all plain (decimal (n / 256 % 256)) ≡ true = decimal_is_plain (n / 256 % 256) (omega arith) in
    let d : list_all plain (decimal (n % 256)) ≡ true = decimal_is_plain (n % 256) (omega arith) in
    simp (list_all-append, a, b, c, d) refl

pub prefix_is_plain : (b : Block) → b.len < 2 ^ 8 → IsPlain (prefix_text b)
prefix_is_plain b small =
    let a : list_all plain (address_text b.addr) ≡ true = address_is_plain b.addr in
    let l : list_all plain (decimal b.len) ≡ true = decimal_is_plain b.len (omega (arith, small)) in
    list_all-append plain (address_text b.addr) (47 ∷ decimal b.len) ∙ rw (a, l) refl

pub rule_is_plain : (r : RuleNo) → r.sequence < 2 ^ 16 → r.position < 2 ^ 16 → IsPlain (rule_text r)
rule_is_plain r s p =
    let a : list_all plain (decimal r.sequence) ≡ true = decimal_is_plain r.sequence (omega (arith, s)) in
    let l : list_all plain (decimal r.position) ≡ true = decimal_is_plain r.position (omega (arith, p)) in
    list_all-append plain (decimal r.sequence) (47 ∷ decimal r.position) ∙ rw (a, l) refl

-- US-ASCII, blanks too
abbrev pub ascii : ℕ → Bool
ascii c = nat_lt c 128

pub plain_is_ascii : (text : List ℕ) → IsPlain text → list_all ascii text ≡ true
plain_is_ascii [] h = refl
plain_is_ascii (c ∷ text) h =
    let p = and_parts (plain c) (list_all plain text) h in
    let q = and_parts (nat_lt 32 c) (nat_lt c 128) p.0 in
    rw (q.1, plain_is_ascii text p.1) refl

is_ascii : (text : List ℕ) → list_all ascii text ≡ true → IsAscii text
is_ascii [] h = IsAscii-nil
is_ascii (c ∷ text) h =
    let p = and_parts (ascii c) (list_all ascii text) h in
    IsAscii-cons c text (ltb-true c 128 p.0) (is_ascii text p.1)

pub ascii_is_utf8 : (text : List ℕ) → list_all ascii text ≡ true → IsUtf8 text
ascii_is_utf8 text h = IsUtf8-from_ascii text (is_ascii text h)
