-- Digits are at fault where a scan says so.
use Rattle.std.proofs.Common.{◌≡◌, ℕ, ◌||◌, Bool, true, false, not, List, [], ◌∷◌, ◌++◌, refl, sym, subst, ap, ◌∙◌, Option, Some, None, inl, inr}
use Rattle.std.specs.List.{list_all}
use Rattle.std.proofs.lemmas.Bool.{and_parts, cases_Bool}
use Rattle.explanations.specs.Counting.{DigitsAreScanned, is_even, is_sound}
use Rattle.explanations.specs.Digits.{fault_after, is_blank, is_hex_digit, nothing_scanned, scan_after, scanned}
use Rattle.explanations.specs.Places.{place_after, place_behind, start}
use Rattle.explanations.specs.declared.digits.DigitFault.{DigitFault}
use Rattle.explanations.specs.declared.digits.DigitFault.TheVariants.{Stray, Unpaired}
use Rattle.explanations.specs.declared.digits.DigitScan.{DigitScan}
use Rattle.explanations.specs.declared.place.TextPlace.{TextPlace}

abbrev at : TextPlace → Option DigitFault → DigitScan
at next fault = record { next = next; fault = fault }

both : (s : DigitScan) (xs ys : List ℕ) → scanned s (xs ++ ys) ≡ scanned (scanned s xs) ys
unfolding scanned
both s [] ys = refl
both s (x ∷ xs) ys = both (scan_after s x) xs ys

-- a scan goes on with its place
next_is : (s : DigitScan) (text : List ℕ) → (scanned s text).next ≡ place_behind s.next text
unfolding scanned place_behind
next_is s [] = refl
next_is s (c ∷ text) = next_is (scan_after s c) text

-- what is sound and no digit is a blank
blank_is : (c : ℕ) → is_sound c ≡ true → is_hex_digit c ≡ false → is_blank c ≡ true
blank_is c h e = rw e at h

pub not_is_true : (b : Bool) → not b ≡ true → b ≡ false
not_is_true true h = cc
not_is_true false h = refl

not_is_false : (b : Bool) → not b ≡ false → b ≡ true
not_is_false true h = refl
not_is_false false h = cc

-- nothing but a digit without its other is the fault of sound text
abbrev IsOpen : Option DigitFault → Type 0
IsOpen None = Unit {0}
IsOpen (Some (Unpaired q)) = Unit {0}
IsOpen (Some (Stray q)) = ⊥

-- what an octet makes of a fault
first_digit : (p : TextPlace) (c : ℕ) → is_hex_digit c ≡ true → fault_after None p c ≡ Some (Unpaired p)
first_digit p c e = rw e refl

second_digit : (p q : TextPlace) (c : ℕ) → is_hex_digit c ≡ true → fault_after (Some (Unpaired q)) p c ≡ None
second_digit p q c e = rw e refl

blank_keeps : (p : TextPlace) (fault : Option DigitFault) (c : ℕ) → IsOpen fault → is_hex_digit c ≡ false → is_blank c ≡ true → fault_after fault p c ≡ fault
blank_keeps p None c o e b = rw (e, b) refl
blank_keeps p (Some (Unpaired q)) c o e b = rw (e, b) refl
blank_keeps p (Some (Stray q)) c o e b = absurd o

stray_comes : (p : TextPlace) (fault : Option DigitFault) (c : ℕ) → IsOpen fault → is_hex_digit c ≡ false → is_blank c ≡ false → fault_after fault p c ≡ Some (Stray p)
stray_comes p None c o e b = rw (e, b) refl
stray_comes p (Some (Unpaired q)) c o e b = rw (e, b) refl
stray_comes p (Some (Stray q)) c o e b = absurd o

-- a scan goes on behind an octet with the fault that this makes
goes_on : (p : TextPlace) (f g : Option DigitFault) (c : ℕ) (text : List ℕ) → fault_after f p c ≡ g
    → (scanned (at p f) (c ∷ text)).fault ≡ (scanned (at (place_after p c) g) text).fault
unfolding scanned
goes_on p f g c text e = ap (λ (k : Option DigitFault). (scanned (at (place_after p c) k) text).fault) e

-- the fault behind sound text, where there was none before it, and where a digit had no other
record Ends (text : List ℕ) (p q : TextPlace) : Type 0 where
  whole : is_even text ≡ true → (scanned (at p None) text).fault ≡ None
  half : is_even text ≡ false → (scanned (at p (Some (Unpaired q))) text).fault ≡ None

ends_none : (p q : TextPlace) → Ends [] p q
unfolding scanned
ends_none p q = record { whole = λ h. refl; half = λ h. cc }

ends : (text : List ℕ) → list_all is_sound text ≡ true → (p q : TextPlace) → Ends text p q
ends [] sound p q = ends_none p q
ends (c ∷ text) sound p q =
    let s = and_parts (is_sound c) (list_all is_sound text) sound in
    elim (cases_Bool (is_hex_digit c)) [
      | inl e ↦
          let r = ends text s.1 (place_after p c) p in
          record {
            whole = λ h. let g : not (is_even text) ≡ true = rw e at h in
                goes_on p None (Some (Unpaired p)) c text (first_digit p c e) ∙ r.half (not_is_true (is_even text) g);
            half = λ h. let g : not (is_even text) ≡ false = rw e at h in
                goes_on p (Some (Unpaired q)) None c text (second_digit p q c e) ∙ r.whole (not_is_false (is_even text) g);
          }
      | inr e ↦
          let r = ends text s.1 (place_after p c) q in
          let b = blank_is c s.0 e in
          record {
            whole = λ h. let g : is_even text ≡ true = rw e at h in
                goes_on p None None c text (blank_keeps p None c tt e b) ∙ r.whole g;
            half = λ h. let g : is_even text ≡ false = rw e at h in
                goes_on p (Some (Unpaired q)) (Some (Unpaired q)) c text (blank_keeps p (Some (Unpaired q)) c tt e b) ∙ r.half g;
          }
    ]

-- behind a stray octet nothing is looked at
stays : (p q : TextPlace) (text : List ℕ) → (scanned (at p (Some (Stray q))) text).fault ≡ Some (Stray q)
unfolding scanned
stays p q [] = refl
stays p q (c ∷ text) = stays (place_after p c) q text

-- a fault that is open stays so over sound text
ends_open : (p : TextPlace) (fault : Option DigitFault) → IsOpen fault → IsOpen (scanned (at p fault) []).fault
unfolding scanned
ends_open p fault h = h

open_after : (text : List ℕ) → list_all is_sound text ≡ true → (p : TextPlace) (fault : Option DigitFault) → IsOpen fault
    → IsOpen (scanned (at p fault) text).fault
open_after [] sound p fault h = ends_open p fault h
open_after (c ∷ text) sound p fault h =
    let s = and_parts (is_sound c) (list_all is_sound text) sound in
    elim (cases_Bool (is_hex_digit c)) [
      | inl e ↦ digit_opens p fault h c text e (λ f o. open_after text s.1 (place_after p c) f o)
      | inr e ↦
          subst IsOpen (sym (goes_on p fault fault c text (blank_keeps p fault c h e (blank_is c s.0 e))))
          (open_after text s.1 (place_after p c) fault h)
    ]
  where
    digit_opens : (p : TextPlace) (fault : Option DigitFault) → IsOpen fault → (c : ℕ) (text : List ℕ) → is_hex_digit c ≡ true
        → ((f : Option DigitFault) → IsOpen f → IsOpen (scanned (at (place_after p c) f) text).fault)
        → IsOpen (scanned (at p fault) (c ∷ text)).fault
    digit_opens p None h c text e more =
        subst IsOpen (sym (goes_on p None (Some (Unpaired p)) c text (first_digit p c e))) (more (Some (Unpaired p)) tt)
    digit_opens p (Some (Unpaired q)) h c text e more =
        subst IsOpen (sym (goes_on p (Some (Unpaired q)) None c text (second_digit p q c e))) (more None tt)
    digit_opens p (Some (Stray q)) h c text e more = absurd h

or_parts : (a b : Bool) → (a || b) ≡ false → (a ≡ false) × (b ≡ false)
or_parts true b h = absurd (cc)
or_parts false b h = (refl, h)

stray_at : (s : DigitScan) (octet : ℕ) (back : List ℕ) → IsOpen s.fault → is_sound octet ≡ false
    → (scanned s (octet ∷ back)).fault ≡ Some (Stray s.next)
stray_at s octet back h e =
    let k = or_parts (is_hex_digit octet) (is_blank octet) e in
    goes_on s.next s.fault (Some (Stray s.next)) octet back (stray_comes s.next s.fault octet h k.0 k.1)
    ∙ stays (place_after s.next octet) s.next back

-- blanks change nothing
blanks_pass : (p q : TextPlace) (blanks : List ℕ) → list_all is_sound blanks ≡ true
    → list_all (λ octet. not (is_hex_digit octet)) blanks ≡ true → (scanned (at p (Some (Unpaired q))) blanks).fault ≡ Some (Unpaired q)
unfolding scanned
blanks_pass p q [] sound h = refl
blanks_pass p q (c ∷ blanks) sound h =
    let s = and_parts (is_sound c) (list_all is_sound blanks) sound in
    let k = and_parts (not (is_hex_digit c)) (list_all (λ octet. not (is_hex_digit octet)) blanks) h in
    let e = not_is_true (is_hex_digit c) k.0 in
    goes_on p (Some (Unpaired q)) (Some (Unpaired q)) c blanks (blank_keeps p (Some (Unpaired q)) c tt e (blank_is c s.0 e))
    ∙ blanks_pass (place_after p c) q blanks s.1 k.1

unpaired_at : (p : TextPlace) (fault : Option DigitFault) (digit : ℕ) (blanks : List ℕ) → fault ≡ None → is_hex_digit digit ≡ true
    → list_all is_sound blanks ≡ true → list_all (λ octet. not (is_hex_digit octet)) blanks ≡ true
    → (scanned (at p fault) (digit ∷ blanks)).fault ≡ Some (Unpaired p)
unpaired_at p fault digit blanks n e sound h =
    goes_on p fault (Some (Unpaired p)) digit blanks (ap (λ (f : Option DigitFault). fault_after f p digit) n ∙ first_digit p digit e)
    ∙ blanks_pass (place_after p digit) p blanks sound h

pub digits_are_scanned : DigitsAreScanned
digits_are_scanned = record {
  sound = λ text sound h. (ends text sound start start).whole h;
  stray = λ front back octet sound e.
      ap (λ (s : DigitScan). s.fault) (both nothing_scanned front (octet ∷ back))
      ∙ (stray_at (scanned nothing_scanned front) octet back (open_after front sound start None tt) e
      ∙ ap (λ (p : TextPlace). Some (Stray p)) (next_is nothing_scanned front));
  unpaired = λ front blanks digit sound h e rest none.
      ap (λ (s : DigitScan). s.fault) (both nothing_scanned front (digit ∷ blanks))
      ∙ (unpaired_at (scanned nothing_scanned front).next (scanned nothing_scanned front).fault digit blanks ((ends front sound start start).whole h) e rest none
      ∙ ap (λ (p : TextPlace). Some (Unpaired p)) (next_is nothing_scanned front));
}
