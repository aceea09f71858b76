-- The text of a value that is fit is one line.
use Rattle.std.proofs.Common.{◌≡◌, ◌≢◌, ℕ, zero, suc, ◌+◌, ◌/◌, ◌%◌, ◌==◌, ◌≤◌, ◌<◌, ◌^◌, ltb, not, Bool, true, false, cond, List, [], ◌∷◌, ◌++◌, codes, decimal, refl, subst, arith}
use Rattle.std.specs.Char.{digit_char}
use Rattle.std.specs.List.{All, list_all}
use Rattle.std.proofs.lemmas.Bool.{and_parts, ltb-false}
use Rattle.std.proofs.lemmas.Bool.Decides.{nat_tests}
use Rattle.std.proofs.lemmas.Fmt.{decimal_by_steps}
use Rattle.std.proofs.lemmas.List.Elements.{All-append, All-cons, All-nil, All-push}
use Rattle.json.specs.Print.{escape, escape_byte, escape_letter, quoted}
use Rattle.serde_json.specs.Data.{unsigned, negative, float, Data, null, boolean, number, string, array, object, Items, no_items, item, Members, no_members, member}
use Rattle.serde_json.specs.Written.{compact_text, items_text, members_text, comma_if}
use Rattle.inspect_json.proofs.Fits.{AreFit, HasFit, IsFit}

abbrev EndsNoLine : ℕ → Type 0
EndsNoLine octet = octet ≢ 10

other : (x : ℕ) → not (x == 10) ≡ true → x ≢ 10
other x h = λ e. let two : false ≡ true = subst (λ (n : ℕ). not (n == 10) ≡ true) e h in cc

above : (k m : ℕ) → 10 < k → k + m ≢ 10
above k m h = λ e. omega (arith, h, e)

-- a text of which each octet is seen to end no line
seen : (xs : List ℕ) → list_all (λ x. not (x == 10)) xs ≡ true → All EndsNoLine xs
seen [] h = All-nil EndsNoLine
seen (x ∷ xs) h =
    let parts = and_parts (not (x == 10)) (list_all (λ x. not (x == 10)) xs) h in
    All-cons EndsNoLine x xs (other x parts.0) (seen xs parts.1)

digits : (n : ℕ) → n < 2 ^ 64 → All EndsNoLine (decimal n)
digits n h =
    decimal_by_steps (λ _ ds. All EndsNoLine ds) (λ m lt. All-cons EndsNoLine (48 + m) [] (above 48 m (omega arith)) (All-nil EndsNoLine))
    (λ m ds le k. All-push EndsNoLine ds (48 + m % 10) k (above 48 (m % 10) (omega arith))) n h

letter : (x : ℕ) → escape_letter x ≡ 10 → ⊥
letter x e = grind (arith, nat_tests)

digit : (d : ℕ) → digit_char d ≡ 10 → ⊥
digit d e = grind (arith, nat_tests)

beyond : (x : ℕ) → ltb x 32 ≡ false → x ≢ 10
beyond x h = λ e. omega (arith, ltb-false x 32 h, e)

escaped_byte : (x : ℕ) → All EndsNoLine (escape_byte x)
unfolding escape_byte
escaped_byte x =
    let places : List ℕ = digit_char (x / 16) ∷ digit_char (x % 16) ∷ [] in
    let hexadecimal : List ℕ = 92 ∷ 117 ∷ 48 ∷ 48 ∷ places in
    elim (ltb 0 (escape_letter x)) as (λ b. All EndsNoLine (cond b (92 ∷ escape_letter x ∷ []) (cond (ltb x 32) hexadecimal (x ∷ [])))) [
      | true ↦
          All-append EndsNoLine (92 ∷ []) (escape_letter x ∷ []) (seen (92 ∷ []) refl)
          (All-cons EndsNoLine (escape_letter x) [] (letter x) (All-nil EndsNoLine))
      | false ↦ elim (ltb x 32) as (λ b. ltb x 32 ≡ b → All EndsNoLine (cond b hexadecimal (x ∷ []))) [
        | true ↦ λ e.
            All-append EndsNoLine (92 ∷ 117 ∷ 48 ∷ 48 ∷ []) places (seen (92 ∷ 117 ∷ 48 ∷ 48 ∷ []) refl)
            (All-cons EndsNoLine (digit_char (x / 16)) (digit_char (x % 16) ∷ []) (digit (x / 16))
            (All-cons EndsNoLine (digit_char (x % 16)) [] (digit (x % 16)) (All-nil EndsNoLine)))
        | false ↦ λ e. All-cons EndsNoLine x [] (beyond x e) (All-nil EndsNoLine)
      ] refl
    ]

escaped : (s : List ℕ) → All EndsNoLine (escape s)
escaped [] = All-nil EndsNoLine
escaped (x ∷ xs) = All-append EndsNoLine (escape_byte x) (escape xs) (escaped_byte x) (escaped xs)

in_quotes : (s : List ℕ) → All EndsNoLine (quoted s)
in_quotes s =
    All-append EndsNoLine (34 ∷ []) (escape s ++ 34 ∷ []) (seen (34 ∷ []) refl)
    (All-append EndsNoLine (escape s) (34 ∷ []) (escaped s) (seen (34 ∷ []) refl))

commas : (later : Bool) → All EndsNoLine (comma_if later)
commas true = seen (44 ∷ []) refl
commas false = All-nil EndsNoLine

truths : (b : Bool) → All EndsNoLine (compact_text (boolean b))
truths true = seen (codes "true") refl
truths false = seen (codes "false") refl

mutual
  pub one_line : (k : ℕ) (d : Data) → IsFit k d → All EndsNoLine (compact_text d)
  one_line k null h = seen (codes "null") refl
  one_line k (boolean b) h = truths b
  one_line k (number (unsigned n)) h = digits n h
  one_line k (number (negative z)) h = absurd h
  one_line k (number (float x)) h = absurd h
  one_line k (string s) h = in_quotes s
  one_line zero (array ds) h = absurd h
  one_line (suc k) (array ds) h = All-append EndsNoLine (91 ∷ []) (items_text false ds) (seen (91 ∷ []) refl) (items_in_line k false ds h)
  one_line zero (object ms) h = absurd h
  one_line (suc k) (object ms) h = All-append EndsNoLine (123 ∷ []) (members_text false ms) (seen (123 ∷ []) refl) (members_in_line k false ms h.0)

  items_in_line : (k : ℕ) (later : Bool) (ds : Items) → AreFit k ds → All EndsNoLine (items_text later ds)
  items_in_line k later no_items h = seen (93 ∷ []) refl
  items_in_line k later (item d ds) h =
      All-append EndsNoLine (comma_if later) (compact_text d ++ items_text true ds) (commas later)
      (All-append EndsNoLine (compact_text d) (items_text true ds) (one_line k d h.0) (items_in_line k true ds h.1))

  members_in_line : (k : ℕ) (later : Bool) (ms : Members) → HasFit k ms → All EndsNoLine (members_text later ms)
  members_in_line k later no_members h = seen (125 ∷ []) refl
  members_in_line k later (member name d ms) h =
      All-append EndsNoLine (comma_if later) (quoted name ++ 58 ∷ (compact_text d ++ members_text true ms)) (commas later)
      (All-append EndsNoLine (quoted name) (58 ∷ (compact_text d ++ members_text true ms)) (in_quotes name)
      (All-append EndsNoLine (58 ∷ []) (compact_text d ++ members_text true ms) (seen (58 ∷ []) refl)
      (All-append EndsNoLine (compact_text d) (members_text true ms) (one_line k d h.1) (members_in_line k true ms h.2))))
