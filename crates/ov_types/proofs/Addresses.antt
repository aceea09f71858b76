-- What std reads as an address is what the definition reads.
use Rattle.std.proofs.Common.{◌≡◌, ℕ, ◌+◌, ◌-◌, ◌*◌, ◌/◌, ◌%◌, ◌<◌, true, false, eqb, List, [], ◌∷◌, ◌++◌, Some, None, refl, sym, subst, ap, ◌∙◌, arith, append_assoc, inl, inr}
use Rattle.std.specs.Prelude.{codes, decimal, bytes_eq}
use Rattle.std.specs.Char.{digit_value}
use Rattle.std.specs.Int.{w32, from_be_bytes}
use Rattle.std.specs.Str.Parse.{AllDigits, digits_value_after}
use Rattle.std.specs.declared.net.ipv4_addr.Ipv4Addr.{Ipv4Addr}
use Rattle.std.specs.Net.Grammar.{IsDotted, IsIpv4Text}
use Rattle.std.proofs.lemmas.Bool.{ne_eqb, cases_Bool}
use Rattle.std.proofs.lemmas.List.{append-nil}
use Rattle.std.proofs.lemmas.Fmt.{decimal_is_IsNumeral}
use Rattle.std.proofs.lemmas.Str.{digit_value_digit}
use Rattle.std.proofs.lemmas.Str.Parse.{digit_from_value}
use Rattle.std.proofs.lemmas.Slice.Eq.{bytes_eq-Decides}
use Rattle.ov_types.specs.Texts.{address_text}
use Rattle.ov_types.specs.Written.{parts_value, address_of}

-- a digit goes to the part
pub digits_read : (n part : ℕ) (ds rest : List ℕ) → AllDigits 10 ds → parts_value n part (ds ++ rest) ≡ parts_value n (digits_value_after 10 part ds) rest
digits_read n part [] rest h = refl
digits_read n part (c ∷ ds) rest h =
    let range = digit_from_value c h.0 in
    let value : digit_value c + 48 ≡ c = digit_value_digit c range in
    let other : eqb c 46 ≡ false = ne_eqb c 46 (λ e. absurd (omega (arith, range))) in
    let same : c - 48 ≡ digit_value c = omega arith in
    rw other (ap (λ (d : ℕ). parts_value n (part * 10 + d) (ds ++ rest)) same ∙ digits_read n (part * 10 + digit_value c) ds rest h.1)

decimal_read : (n a : ℕ) (rest : List ℕ) → a < 256 → parts_value n 0 (decimal a ++ rest) ≡ parts_value n a rest
decimal_read n a rest lt =
    let d = decimal_is_IsNumeral a (omega arith) in
    digits_read n 0 (decimal a) rest d.0.1 ∙ ap (λ (v : ℕ). parts_value n v rest) d.1

-- four parts
abbrev pub whole : ℕ → ℕ → ℕ → ℕ → ℕ
whole a b c d = (((0 * 256 + a) * 256 + b) * 256 + c) * 256 + d

dotted_read : (a b c d : ℕ) → a < 256 → b < 256 → c < 256 → d < 256
    → parts_value 0 0 (decimal a ++ (codes "." ++ (decimal b ++ (codes "." ++ (decimal c ++ (codes "." ++ decimal d)))))) ≡ whole a b c d
dotted_read a b c d la lb lc ld =
    decimal_read 0 a (codes "." ++ (decimal b ++ (codes "." ++ (decimal c ++ (codes "." ++ decimal d))))) la
    ∙ decimal_read (0 * 256 + a) b (codes "." ++ (decimal c ++ (codes "." ++ decimal d))) lb
    ∙ decimal_read ((0 * 256 + a) * 256 + b) c (codes "." ++ decimal d) lc
    ∙ ap (λ (t : List ℕ). parts_value (((0 * 256 + a) * 256 + b) * 256 + c) 0 t) (sym (append-nil (decimal d)))
    ∙ decimal_read (((0 * 256 + a) * 256 + b) * 256 + c) d [] ld

-- the text of an address is read as its parts
pub text_value : (n : ℕ) → parts_value 0 0 (address_text n) ≡ whole (n / 16777216 % 256) (n / 65536 % 256) (n / 256 % 256) (n % 256)
text_value n = dotted_read (n / 16777216 % 256) (n / 65536 % 256) (n / 256 % 256) (n % 256) (omega arith) (omega arith) (omega arith) (omega arith)

-- the parts of a whole
spelled_again : (a b c d : ℕ) → a < 256 → b < 256 → c < 256 → d < 256
    → address_text (whole a b c d) ≡ decimal a ++ (codes "." ++ (decimal b ++ (codes "." ++ (decimal c ++ (codes "." ++ decimal d)))))
spelled_again a b c d la lb lc ld =
    let ea : whole a b c d / 16777216 % 256 ≡ a = omega arith in
    let eb : whole a b c d / 65536 % 256 ≡ b = omega arith in
    let ec : whole a b c d / 256 % 256 ≡ c = omega arith in
    let ed : whole a b c d % 256 ≡ d = omega arith in
    rw (ea, eb, ec, ed) refl

-- text that an address spells is read as that address
pub found : (text : List ℕ) (n : ℕ) → parts_value 0 0 text ≡ n → address_text n ≡ text → address_of text ≡ Some n
unfolding address_of
found text n value spelled =
    let e : bytes_eq (address_text (parts_value 0 0 text)) text ≡ true = (bytes_eq-Decides _ _).1 (ap address_text value ∙ spelled) in
    rw e (ap (λ (k : ℕ). Some k) value)

-- the number of four octets
bits_of : (octets : List ℕ) (a b c d : ℕ) → octets ≡ a ∷ b ∷ c ∷ d ∷ [] → from_be_bytes w32 octets ≡ whole a b c d
bits_of octets a b c d e = rw e (omega arith)

pub reads_dotted : (text octets : List ℕ) → IsDotted text octets → Some (from_be_bytes w32 octets) ≡ address_of text
reads_dotted text octets h =
    let spelled : text ≡ decimal h.a ++ (codes "." ++ (decimal h.b ++ (codes "." ++ (decimal h.c ++ (codes "." ++ decimal h.d))))) = h.spelled ∙ simp append_assoc in
    let value : parts_value 0 0 text ≡ whole h.a h.b h.c h.d = rw spelled (dotted_read h.a h.b h.c h.d h.fit.0 h.fit.1 h.fit.2 h.fit.3) in
    let again : address_text (whole h.a h.b h.c h.d) ≡ text = spelled_again h.a h.b h.c h.d h.fit.0 h.fit.1 h.fit.2 h.fit.3 ∙ sym spelled in
    ap (λ (k : ℕ). Some k) (bits_of octets h.a h.b h.c h.d h.value) ∙ sym (found text (whole h.a h.b h.c h.d) value again)

-- the address that a number is
address_at : ℕ → Ipv4Addr
address_at n = record { octets = n / 16777216 % 256 ∷ n / 65536 % 256 ∷ n / 256 % 256 ∷ n % 256 ∷ [] }

dotted_at : (n : ℕ) → IsIpv4Text (address_text n) (address_at n)
unfolding address_at
dotted_at n = record {
  a = n / 16777216 % 256;
  b = n / 65536 % 256;
  c = n / 256 % 256;
  d = n % 256;
  fit = (omega arith, omega arith, omega arith, omega arith);
  value = refl;
  spelled = simp append_assoc;
}

not_spelled : (text : List ℕ) (n : ℕ) → ((a : Ipv4Addr) → IsIpv4Text text a → ⊥) → address_text n ≡ text → ⊥
not_spelled text n none e = none (address_at n) (subst (λ (t : List ℕ). IsIpv4Text t (address_at n)) e (dotted_at n))

pub reads_none : (text : List ℕ) → ((a : Ipv4Addr) → IsIpv4Text text a → ⊥) → None ≡ address_of text
unfolding address_of
reads_none text none =
    elim (cases_Bool (bytes_eq (address_text (parts_value 0 0 text)) text)) [
      | inl e ↦ absurd (not_spelled text (parts_value 0 0 text) none ((bytes_eq-Decides _ _).0 e))
      | inr e ↦ rw e refl
    ]
