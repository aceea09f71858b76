-- One text for each address, prefix and name.
use Rattle.std.proofs.Common.{◌≡◌, ℕ, ◌+◌, ◌/◌, ◌%◌, ◌^◌, ◌<◌, ◌≤◌, ◌&&◌, Bool, true, false, IsTrue, eqb, List, [], ◌∷◌, ◌++◌, length, take, drop, get_or, Option, Some, None, refl, sym, subst, ap, ◌∙◌, arith, add-one, inl, inr, codes, decimal, bytes_eq, nat_le, nat_lt, ◌==◌, not}
use Rattle.std.specs.List.{position_or_len, before_first, after_first, list_all}
use Rattle.std.specs.Str.Parse.{AllDigits, digits_value}
use Rattle.std.proofs.lemmas.Bool.{cases_Bool, cases_lt, and_parts, ne_eqb, eqb-true, ltb-true}
use Rattle.std.proofs.Math.ListN.{drop_of_length-le}
use Rattle.std.proofs.lemmas.List.{take_at}
use Rattle.std.proofs.lemmas.List.Folds.{list_all-append}
use Rattle.std.proofs.lemmas.Fmt.{decimal_is_IsNumeral}
use Rattle.std.proofs.lemmas.List.Sums.{split_at_first, passes_at_first}
use Rattle.std.proofs.lemmas.Slice.Eq.{bytes_eq-Decides}
use Rattle.std.proofs.lemmas.Str.Parse.{digit_from_value}
use Rattle.ov_types.specs.Prefix.{Block, is_prefix, prefix_of, size_of}
use Rattle.ov_types.specs.Texts.{address_text, prefix_text}
use Rattle.ov_types.specs.Written.{parts_value, address_of, length_of, is_slash, block_from, block_of}
use Rattle.ov_types.specs.OneText.{AddressHasOneText, PrefixHasOneText}
use Rattle.ov_types.proofs.Lengths.{empty_length, found as spelled_length}
use Rattle.ov_types.proofs.Addresses.{whole, text_value, found}

-- the parts of an address are read as its number, up to what does not fit
same_number : (n : ℕ) → n < 2 ^ 32 → parts_value 0 0 (address_text n) ≡ n
same_number n small = text_value n ∙ omega arith

address_is : (text : List ℕ) (n : ℕ) → address_of text ≡ Some n → (n < 2 ^ 32) × (text ≡ address_text n)
unfolding address_of
address_is text n h =
    elim (cases_Bool (bytes_eq (address_text (parts_value 0 0 text)) text)) [
      | inl e ↦
          let g : Some (parts_value 0 0 text) ≡ Some n = rw e at h in
          let same : parts_value 0 0 text ≡ n = cc in
          let spelled : address_text (parts_value 0 0 text) ≡ text = (bytes_eq-Decides _ _).0 e in
          let spelled' : address_text n ≡ text = ap address_text (sym same) ∙ spelled in
          let value : parts_value 0 0 text ≡ whole (n / 16777216 % 256) (n / 65536 % 256) (n / 256 % 256) (n % 256) = ap (parts_value 0 0) (sym spelled') ∙ text_value n in
          (omega (arith, value, same), sym spelled')
      | inr e ↦ let g : None ≡ Some n = rw e at h in absurd (cc)
    ]

address_reads : (text : List ℕ) (n : ℕ) → n < 2 ^ 32 → text ≡ address_text n → address_of text ≡ Some n
address_reads text n small e = found text n (ap (parts_value 0 0) e ∙ same_number n small) (sym e)

pub address_has_one_text : AddressHasOneText
address_has_one_text text n = (address_is text n, λ h. address_reads text n h.0 h.1)

abbrev plain : ℕ → Bool
plain c = not (is_slash c)

joined : (before after address len : List ℕ) (c : ℕ) → before ≡ address → c ≡ 47 → after ≡ len → before ++ (c ∷ after) ≡ address ++ (codes "/" ++ len)
joined before after address len c e f g = rw (e, f, g) refl

past_first : (xs : List ℕ) (c : ℕ) (ys : List ℕ) → drop (length xs + 1) (xs ++ c ∷ ys) ≡ ys
past_first [] c ys = refl
past_first (x ∷ xs) c ys = rw add-one (rw add-one at (past_first xs c ys))

length_fits : (a l : ℕ) → is_prefix a l ≡ true → l ≤ 32
length_fits a l h = let k = ltb-true l 33 (and_parts (nat_lt l 33) (a % size_of l == 0) h).0 in omega arith

-- no slash stands in digits, nor in an address
no_slash_in_digits : (ds : List ℕ) → AllDigits 10 ds → list_all plain ds ≡ true
no_slash_in_digits [] h = refl
no_slash_in_digits (c ∷ ds) h =
    let k = digit_from_value c h.0 in
    let other : eqb c 47 ≡ false = ne_eqb c 47 (λ e. absurd (omega (arith, k, e))) in
    rw (other, no_slash_in_digits ds h.1) refl

no_slash_in_decimal : (n : ℕ) → n < 256 → list_all plain (decimal n) ≡ true
no_slash_in_decimal n small = no_slash_in_digits (decimal n) (decimal_is_IsNumeral n (omega arith)).0.1

no_slash_in_address : (n : ℕ) → list_all plain (address_text n) ≡ true
no_slash_in_address n =
    let a : list_all plain (decimal (n / 16777216 % 256)) ≡ true = no_slash_in_decimal (n / 16777216 % 256) (omega arith) in
    let b : list_all plain (decimal (n / 65536 % 256)) ≡ true = no_slash_in_decimal (n / 65536 % 256) (omega arith) in
    let c : list_all plain (decimal (n / 256 % 256)) ≡ true = no_slash_in_decimal (n / 256 % 256) (omega arith) in
    let d : list_all plain (decimal (n % 256)) ≡ true = no_slash_in_decimal (n % 256) (omega arith) in
    simp (list_all-append, a, b, c, d) refl

-- where the first slash is
place : (xs ys : List ℕ) → list_all plain xs ≡ true → position_or_len is_slash (xs ++ 47 ∷ ys) ≡ length xs
place [] ys h = refl
place (x ∷ xs) ys h =
    let p = and_parts (plain x) (list_all plain xs) h in
    rw (p.0, place xs ys p.1) (omega arith)

length_spells : (text : List ℕ) (n : ℕ) → length_of text ≡ Some n → text ≡ decimal n
unfolding length_of
length_spells text n h =
    elim (cases_Bool (bytes_eq (decimal (digits_value 10 text)) text && nat_le (digits_value 10 text) 32)) [
      | inl e ↦
          let g : Some (digits_value 10 text) ≡ Some n = rw e at h in
          let same : digits_value 10 text ≡ n = cc in
          let p = and_parts (bytes_eq (decimal (digits_value 10 text)) text) (nat_le (digits_value 10 text) 32) e in
          sym ((bytes_eq-Decides _ _).0 p.0) ∙ ap decimal same
      | inr e ↦ let g : None ≡ Some n = rw e at h in absurd (cc)
    ]

-- both parts, where a prefix is made of them
pub record Parts (o p : Option ℕ) (b : Block) : Type 0 where
  pub address : o ≡ Some b.addr
  pub length : p ≡ Some b.len
  pub form : is_prefix b.addr b.len ≡ true

parts_made : (a l : ℕ) (b : Block) → prefix_of a l ≡ Some b → Parts (Some a) (Some l) b
parts_made a l b h =
    elim (cases_Bool (is_prefix a l)) [
      | inl e ↦
          let g : Some (record { addr = a; len = l }) ≡ Some b = rw e at h in
          let same : record { addr = a; len = l } ≡ b = cc in
          subst (λ (c : Block). Parts (Some a) (Some l) c) same (record { address = refl; length = refl; form = e })
      | inr e ↦ let g : None ≡ Some b = rw e at h in absurd (cc)
    ]

parts_of : (o p : Option ℕ) (b : Block) → block_from o p ≡ Some b → Parts o p b
parts_of (Some a) (Some l) b h = parts_made a l b h
parts_of (Some a) None b h = cc
parts_of None p b h = cc

prefix_is : (text : List ℕ) (b : Block) → block_of text ≡ Some b → (b.addr < 2 ^ 32) × IsTrue (is_prefix b.addr b.len) × (text ≡ prefix_text b)
unfolding block_of
prefix_is text b h =
    let p = parts_of (address_of (before_first is_slash text)) (length_of (after_first is_slash text)) b h in
    let a = address_is (before_first is_slash text) b.addr p.address in
    let l : after_first is_slash text ≡ decimal b.len = length_spells (after_first is_slash text) b.len p.length in
    elim (cases_lt (position_or_len is_slash text) (length text)) [
      | inl lt ↦
          let at : get_or text (position_or_len is_slash text) 0 ≡ 47 = eqb-true _ 47 (passes_at_first is_slash text 0 lt) in
          let cut : text ≡ before_first is_slash text ++ (get_or text (position_or_len is_slash text) 0 ∷ after_first is_slash text) = split_at_first is_slash text 0 lt in
          (a.0, p.form, cut ∙ joined _ _ _ _ _ a.1 at l)
      | inr ge ↦
          let past : after_first is_slash text ≡ [] = drop_of_length-le text (omega (arith, ge)) in
          let none : None ≡ Some b.len = empty_length ∙ ap length_of (sym past) ∙ p.length in
          absurd (cc)
    ]

prefix_reads : (text : List ℕ) (b : Block) → b.addr < 2 ^ 32 → is_prefix b.addr b.len ≡ true → text ≡ prefix_text b → block_of text ≡ Some b
unfolding block_of
prefix_reads text b small form e =
    let first : position_or_len is_slash (address_text b.addr ++ 47 ∷ decimal b.len) ≡ length (address_text b.addr) = place (address_text b.addr) (decimal b.len) (no_slash_in_address b.addr) in
    let before : before_first is_slash (address_text b.addr ++ 47 ∷ decimal b.len) ≡ address_text b.addr = ap (λ (k : ℕ). take k (address_text b.addr ++ 47 ∷ decimal b.len)) first ∙ take_at (address_text b.addr) (47 ∷ decimal b.len) (length (address_text b.addr)) refl in
    let after : after_first is_slash (address_text b.addr ++ 47 ∷ decimal b.len) ≡ decimal b.len = ap (λ (k : ℕ). drop (k + 1) (address_text b.addr ++ 47 ∷ decimal b.len)) first ∙ past_first (address_text b.addr) 47 (decimal b.len) in
    let len : b.len ≤ 32 = length_fits b.addr b.len form in
    let one : address_of (address_text b.addr) ≡ Some b.addr = address_reads (address_text b.addr) b.addr small refl in
    let two : length_of (decimal b.len) ≡ Some b.len = sym (spelled_length (decimal b.len) b.len len refl) in
    rw (e, before, after, one, two, form) refl

pub prefix_has_one_text : PrefixHasOneText
prefix_has_one_text text b = (prefix_is text b, λ h. prefix_reads text b h.0 h.1 h.2)
