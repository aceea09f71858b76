-- What a name's form says of its octets.
use Rattle.std.proofs.Common.{◌≡◌, ℕ, ◌<◌, ◌++◌, ◌&&◌, true, ltb, IsTrue, List, [], ◌∷◌, length, drop, ap, ◌∙◌, arith}
use Rattle.std.specs.List.{list_all}
use Rattle.std.specs.Str.{IsAscii, IsUtf8}
use Rattle.std.proofs.lemmas.Str.{IsUtf8-from_ascii}
use Rattle.std.proofs.lemmas.Str.Ascii.{IsAscii-nil, IsAscii-cons}
use Rattle.ov_types.specs.Name.{is_name_octet_of, is_name}
use Rattle.std.proofs.Common.{replicate, length-append, length-drop}
use Rattle.std.proofs.lemmas.Bool.{and_parts, ltb-true}
use Rattle.std.proofs.lemmas.Bool.Decides.{nat_tests}
use Rattle.std.proofs.lemmas.List.{take_at, drop_at, drop-replicate}
use Rattle.ov_types.specs.Name.{Holds}

small : (c : ℕ) → is_name_octet_of c ≡ true → c < 128
small c h = grind (arith, nat_tests)

ascii : (text : List ℕ) → list_all is_name_octet_of text ≡ true → IsAscii text
ascii [] h = IsAscii-nil
ascii (c ∷ text) h =
    let p = and_parts (is_name_octet_of c) (list_all is_name_octet_of text) h in
    IsAscii-cons c text (small c p.0) (ascii text p.1)

-- the three facts of the form
pub record IsOfForm (text : List ℕ) : Type 0 where
  pub some : 0 < length text
  pub short : length text < 33
  pub octets : list_all is_name_octet_of text ≡ true

pub form_of : (text : List ℕ) → is_name text ≡ true → IsOfForm text
form_of text h =
    let p = and_parts (ltb 0 (length text) && ltb (length text) 33) (list_all is_name_octet_of text) h in
    let q = and_parts (ltb 0 (length text)) (ltb (length text) 33) p.0 in
    record { some = ltb-true _ _ q.0; short = ltb-true _ _ q.1; octets = p.1 }

pub name_is_utf8 : (text : List ℕ) → IsTrue (is_name text) → IsUtf8 text
name_is_utf8 text h = IsUtf8-from_ascii text (ascii text (form_of text h).octets)

abbrev blanks : ℕ → List ℕ
blanks n = replicate n 0

pub fields_hold : (copied text : List ℕ) → copied ≡ text → is_name text ≡ true → Holds (copied ++ drop (length text) (blanks 32)) (length text)
fields_hold copied text e h =
    let f = form_of text h in
    let rest : List ℕ = drop (length text) (blanks 32) in
    let len : length copied ≡ length text = ap length e in
    record {
      size = omega (arith, length-append copied rest, length-drop (length text) (blanks 32), f.short, len);
      fits = omega (arith, f.short);
      form = rw (take_at copied rest (length text) len, e) h;
      blank = drop_at copied rest (length text) len ∙ drop-replicate (length text) 32 0;
    }
