-- A value weighs no more than the octets that it is read from.
use Rattle.std.proofs.Common.{◌≡◌, ℕ, suc, ◌+◌, ◌-◌, ◌<◌, ◌≤◌, ◌^◌, ◌&&◌, ◌==◌, Bool, true, false, not, cond, nat_lt}
use Rattle.std.proofs.Common.{nat_le, List, [], ◌∷◌, ◌++◌, length, drop, take, decimal, Option, Some, None, option_map}
use Rattle.std.proofs.Common.{option_and_then, Ordering, Less, Equal, Greater, refl, subst, ap, ◌∙◌, arith}
use Rattle.std.proofs.Common.{append_assoc, append-nil, length-take, ltb-true, inl, inr}
use Rattle.std.specs.Ordering.{nat_cmp, match_ordering}
use Rattle.std.specs.Cmp.Lexicographic.{slice_cmp}
use Rattle.std.specs.Float.{binary64, float_is_finite}
use Rattle.std.specs.Float.Numeral.{Parts, scan_numeral, digits_end, nearest_float as nearest}
use Rattle.std.specs.Char.{is_ascii_digit}
use Rattle.std.specs.List.{prefix_len}
use Rattle.std.specs.Str.Parse.{AllDigits, digits_value}
use Rattle.std.proofs.lemmas.Bool.{cases_Bool, and_parts, not-true, leb-true}
use Rattle.std.proofs.lemmas.Fmt.{length-decimal-le}
use Rattle.std.proofs.lemmas.Int.Digits.{digits_value-lt}
use Rattle.std.proofs.lemmas.Str.Parse.{tells_digits}
use Rattle.json.specs.Token.{Token}
use Rattle.json.specs.Lex.{tokens}
use Rattle.json.specs.Print.{ends}
use Rattle.json.specs.Json as json
use Rattle.json.specs.Tree as tree
use Rattle.json.proofs.Unique.Spelling.{value-json_tokens_back}
use Rattle.serde_json.specs.Data.{Num, unsigned, negative, float, Data, null, boolean, number, string, array, object}
use Rattle.serde_json.specs.Data.{Items, no_items, item, Members, no_members, member, put}
use Rattle.serde_json.specs.Read.{is_integer, float_of, number_from, number_of, of_json, of_items, of_members, read}
use Rattle.serde_json.specs.Read.{max_depth}
use Rattle.item_wire.proofs.Lexemes.{token_weight}
use Rattle.item_wire.proofs.Tokens.{comma_before, tokens_weight, tokens_fit}
use Rattle.item_wire.proofs.Weights.{comma_weight, weight, items_weight, members_weight, member_weight}

-- ---- numbers: decimal digits with no leading zero are the shortest

whole_within : (s : List ℕ) → length (scan_numeral s).whole ≤ length s
unfolding scan_numeral
whole_within s = omega (arith, length-take (digits_end s 0 - 0) s)

no_fraction : (s : List ℕ) → (scan_numeral s).point ≡ false → (scan_numeral s).fraction ≡ []
unfolding scan_numeral
no_fraction s h = rw h refl

next_digit : (x : ℕ) (xs : List ℕ) (n : ℕ) (b : Bool) → is_ascii_digit x ≡ b → AllDigits 10 (take n xs)
    → AllDigits 10 (take (cond b (1 + n) 0) (x ∷ xs))
next_digit x xs n false e h = tells_digits.empty
next_digit x xs n true e h =
    let p = and_parts (nat_le 48 x) (nat_le x 57) e in
    let more : suc n ≡ 1 + n = omega arith in
    subst (λ k. AllDigits 10 (take k (x ∷ xs))) more
    (tells_digits.more x (take n xs) (leb-true 48 x p.0, leb-true x 57 p.1) h)

digit_run : (s : List ℕ) → AllDigits 10 (take (prefix_len is_ascii_digit s) s)
digit_run [] = tells_digits.empty
digit_run (x ∷ xs) = next_digit x xs (prefix_len is_ascii_digit xs) (is_ascii_digit x) refl (digit_run xs)

whole_digits : (s : List ℕ) → AllDigits 10 (scan_numeral s).whole
unfolding scan_numeral
whole_digits s =
    let same : prefix_len is_ascii_digit s ≡ digits_end s 0 - 0 = omega arith in
    subst (λ n. AllDigits 10 (take n s)) same (digit_run s)

digits_fit : (ds : List ℕ) → AllDigits 10 ds → 0 < length ds → digits_value 10 ds < 2 ^ 64
    → length (decimal (digits_value 10 ds)) ≤ length ds
digits_fit ds h some small = length-decimal-le (length ds) (digits_value 10 ds) some (digits_value-lt 10 ds h) small

-- a number that is whole and not negative is written in as many octets as its digits
abbrev FitsIn : ℕ → Option Num → Type 0
FitsIn n None = Unit {0}
FitsIn n (Some (unsigned k)) = length (decimal k) ≤ n
FitsIn n (Some (negative z)) = Unit {0}
FitsIn n (Some (float x)) = Unit {0}

float_fits : (n : ℕ) (sign : Bool) (p : Parts) → FitsIn n (float_of sign p)
float_fits n sign p =
    elim (cases_Bool (float_is_finite (nearest binary64 sign p))) [ inl e ↦ rw e tt | inr e ↦ rw e tt ]

either : (n : ℕ) (b : Bool) (x y : Option Num) → (b ≡ true → FitsIn n x) → FitsIn n y → FitsIn n (cond b x y)
either n true x y f q = f refl
either n false x y f q = q

integer_fits : (s : List ℕ)
    → (is_integer (scan_numeral s) && nat_lt (digits_value 10 ((scan_numeral s).whole ++ (scan_numeral s).fraction))
    (2 ^ 64)) ≡ true
    → length (decimal (digits_value 10 ((scan_numeral s).whole ++ (scan_numeral s).fraction))) ≤ length s
integer_fits s h =
    let p = scan_numeral s in
    let a = and_parts (is_integer p) (nat_lt (digits_value 10 (p.whole ++ p.fraction)) (2 ^ 64)) h in
    let b = and_parts (nat_lt 0 (length p.whole) && not p.point) (length p.exponent == 0) a.0 in
    let c = and_parts (nat_lt 0 (length p.whole)) (not p.point) b.0 in
    let same : p.whole ++ p.fraction ≡ p.whole =
    ap (λ (f : List ℕ). p.whole ++ f) (no_fraction s (not-true p.point c.1)) ∙ append-nil p.whole in
    let small : digits_value 10 p.whole < 2 ^ 64 = rw same at (ltb-true _ _ a.1) in
    let size = digits_fit p.whole (whole_digits s) (ltb-true 0 _ c.0) small in
    rw same (omega (arith, size, whole_within s))

negative_fits : (n : ℕ) (p : Parts) → FitsIn n (number_from true p)
negative_fits n p = either n _ (Some (negative _)) (float_of true p) (λ _. tt) (float_fits n true p)

plain_fits : (s : List ℕ) → FitsIn (length s) (number_from false (scan_numeral s))
plain_fits s =
    either (length s) _ (Some (unsigned _)) _ (λ e. integer_fits s e) (float_fits (length s) false (scan_numeral s))

number_fits : (s : List ℕ) → FitsIn (length s) (number_of s)
unfolding number_of
number_fits s = either (length s) _ _ _ (λ _. negative_fits (length s) (scan_numeral (drop 1 s))) (plain_fits s)

number_weight : (s : List ℕ) (n : Num) → number_of s ≡ Some n → weight (number n) ≤ length s
number_weight s (unsigned k) h = subst (FitsIn (length s)) h (number_fits s)
number_weight s (negative z) h = omega arith
number_weight s (float x) h = omega arith

-- ---- members that are put in: one that comes again takes the place of the first

chosen : (o : Ordering) (a b c : Members) (n : ℕ) → members_weight a ≤ n → members_weight b ≤ n → members_weight c ≤ n
    → members_weight (match_ordering o a b c) ≤ n
chosen Less a b c n p q r = p
chosen Equal a b c n p q r = q
chosen Greater a b c n p q r = r

put_weight : (k : List ℕ) (d : Data) (ms : Members)
    → members_weight (put k d ms) ≤ member_weight k d + members_weight ms
put_weight k d no_members = omega arith
put_weight k d (member l e ms) =
    chosen (slice_cmp nat_cmp k l) (member k d (member l e ms)) (member l d ms) (member l e (put k d ms))
    (member_weight k d + members_weight (member l e ms))
    (omega arith) (omega arith) (omega (arith, put_weight k d ms))

-- ---- values, by the tokens that they are read from

abbrev IsItem : Option Data → Option Items → Items → Type 0
IsItem o p ds = (d : Data) × (es : Items) × (o ≡ Some d) × (p ≡ Some es) × (item d es ≡ ds)

as_item : (o : Option Data) (p : Option Items) (ds : Items) → option_and_then (λ d. option_map (item d) p) o ≡ Some ds
    → IsItem o p ds
as_item None p ds h = absurd (cc)
as_item (Some d) None ds h = absurd (cc)
as_item (Some d) (Some es) ds h = (d, es, refl, refl, cc)

abbrev IsMember : Option Data → (Data → Option Members) → Members → Type 0
IsMember o next ms = (d : Data) × (o ≡ Some d) × (next d ≡ Some ms)

as_member : (o : Option Data) (next : Data → Option Members) (ms : Members) → option_and_then next o ≡ Some ms
    → IsMember o next ms
as_member None next ms h = absurd (cc)
as_member (Some d) next ms h = (d, refl, h)

as_number : (o : Option Num) (d : Data) → option_map number o ≡ Some d → (n : Num) × (o ≡ Some n) × (number n ≡ d)
as_number None d h = absurd (cc)
as_number (Some n) d h = (n, refl, cc)

as_array : (o : Option Items) (d : Data) → option_map array o ≡ Some d → (ds : Items) × (o ≡ Some ds) × (array ds ≡ d)
as_array None d h = absurd (cc)
as_array (Some ds) d h = (ds, refl, cc)

as_object : (o : Option Members) (d : Data) → option_map object o ≡ Some d
    → (ms : Members) × (o ≡ Some ms) × (object ms ≡ d)
as_object None d h = absurd (cc)
as_object (Some ms) d h = (ms, refl, cc)

-- a token that is a value, with the comma before it
one_token : (later : Bool) (t : Token) (w : ℕ) (ts : List Token) → comma_before true t ≡ 1 → ends t ≡ true
    → w ≤ token_weight t
    → comma_weight later + (w + tokens_weight true ts) ≤ tokens_weight later (t ∷ ts)
one_token true t w ts c e l = rw e (omega (arith, c))
one_token false t w ts c e l = rw e (omega arith)

opened : (later : Bool) (t : Token) (ts : List Token) → comma_before true t ≡ 1 → ends t ≡ false → token_weight t ≡ 1
    → tokens_weight later (t ∷ ts) ≡ comma_weight later + (1 + tokens_weight false ts)
opened true t ts c e l = rw e (omega (arith, c, l))
opened false t ts c e l = rw e (omega (arith, l))

closed : (later : Bool) (t : Token) (ts : List Token) → comma_before true t ≡ 0 → ends t ≡ true → token_weight t ≡ 1
    → tokens_weight later (t ∷ ts) ≡ 1 + tokens_weight true ts
closed true t ts c e l = rw e (omega (arith, c, l))
closed false t ts c e l = rw e (omega (arith, l))

named : (later : Bool) (k : List ℕ) (ts : List Token)
    → tokens_weight later (Token.key k ∷ ts) ≡ comma_weight later + (length k + 3 + tokens_weight false ts)
named true k ts = omega arith
named false k ts = omega arith

pub comma_one : (later : Bool) → comma_weight later ≤ 1
comma_one true = omega arith
comma_one false = omega arith

mutual
  value_fits : (j : json.Json) (d : Data) (later : Bool) (ts : List Token) → of_json j ≡ Some d
      → comma_weight later + (weight d + tokens_weight true ts) ≤ tokens_weight later (tree.json_tokens j ++ ts)
  value_fits json.null d later ts h =
      let e : null ≡ d = cc in
      subst (λ x. comma_weight later + (weight x + tokens_weight true ts) ≤ tokens_weight later (Token.null ∷ ts)) e
      (one_token later Token.null 0 ts refl refl (omega arith))
  value_fits (json.boolean b) d later ts h =
      let e : boolean b ≡ d = cc in
      subst (λ x. comma_weight later + (weight x + tokens_weight true ts) ≤ tokens_weight later (Token.boolean b ∷ ts))
      e (one_token later (Token.boolean b) 0 ts refl refl (omega arith))
  value_fits (json.number s) d later ts h =
      let n = as_number (number_of s) d h in
      subst (λ x. comma_weight later + (weight x + tokens_weight true ts) ≤ tokens_weight later (Token.number s ∷ ts))
      n.2
      (one_token later (Token.number s) (weight (number n.0)) ts refl refl (number_weight s n.0 n.1))
  value_fits (json.string s) d later ts h =
      let e : string s ≡ d = cc in
      subst (λ x. comma_weight later + (weight x + tokens_weight true ts) ≤ tokens_weight later (Token.string s ∷ ts)) e
      (one_token later (Token.string s) (length s + 2) ts refl refl (omega arith))
  value_fits (json.array js) d later ts h =
      let a = as_array (of_items js) d h in
      subst (λ x. comma_weight later + (weight x + tokens_weight true ts) ≤ tokens_weight later
      (Token.begin_array ∷ (tree.items_tokens js ++ ts))) a.2
      (omega (
        arith,
        opened later Token.begin_array (tree.items_tokens js ++ ts) refl refl refl,
        items_fit js a.0 false
            ts a.1,
      ))
  value_fits (json.object ms) d later ts h =
      let o = as_object (of_members ms no_members) d h in
      subst (λ x. comma_weight later + (weight x + tokens_weight true ts) ≤ tokens_weight later
      (Token.begin_object ∷ (tree.members_tokens ms ++ ts))) o.2
      (omega (
        arith,
        opened later Token.begin_object (tree.members_tokens ms ++ ts) refl refl refl,
        members_fit ms
            no_members o.0 false ts o.1,
      ))

  items_fit : (js : json.Items) (ds : Items) (later : Bool) (ts : List Token) → of_items js ≡ Some ds
      → items_weight later ds + tokens_weight true ts ≤ tokens_weight later (tree.items_tokens js ++ ts)
  items_fit json.no_items ds later ts h =
      let e : no_items ≡ ds = cc in
      subst (λ x. items_weight later x + tokens_weight true ts ≤ tokens_weight later (Token.end_array ∷ ts)) e
      (omega (arith, closed later Token.end_array ts refl refl refl))
  items_fit (json.item j js) ds later ts h =
      let i = as_item (of_json j) (of_items js) ds h in
      let rest = tree.items_tokens js ++ ts in
      let same : tokens_weight later ((tree.json_tokens j ++ tree.items_tokens js) ++ ts) ≡ tokens_weight later
      (tree.json_tokens j ++ rest) =
      ap (tokens_weight later) (append_assoc (tree.json_tokens j) (tree.items_tokens js) ts) in
      subst (λ x. items_weight later x + tokens_weight true ts ≤ tokens_weight later
      ((tree.json_tokens j ++ tree.items_tokens js) ++ ts)) i.4
      (omega (arith, same, value_fits j i.0 later rest i.2, items_fit js i.1 true ts i.3))

  members_fit : (ms : json.Members) (found all : Members) (later : Bool) (ts : List Token)
      → of_members ms found ≡ Some all
      → comma_weight later + (members_weight all + tokens_weight true ts) ≤ members_weight found + tokens_weight later
      (tree.members_tokens ms ++ ts)
  members_fit json.no_members found all later ts h =
      let e : found ≡ all = cc in
      subst (λ x. comma_weight later + (members_weight x + tokens_weight true ts) ≤ members_weight found + tokens_weight
      later (Token.end_object ∷ ts)) e
      (omega (arith, comma_one later, closed later Token.end_object ts refl refl refl))
  members_fit (json.member k j ms) found all later ts h =
      let m = as_member (of_json j) (λ d. of_members ms (put k d found)) all h in
      let rest = tree.members_tokens ms ++ ts in
      let same : tokens_weight false ((tree.json_tokens j ++ tree.members_tokens ms) ++ ts) ≡ tokens_weight false
      (tree.json_tokens j ++ rest) =
      ap (tokens_weight false) (append_assoc (tree.json_tokens j) (tree.members_tokens ms) ts) in
      omega (
        arith,
        named later k ((tree.json_tokens j ++ tree.members_tokens ms) ++ ts),
        same,
        value_fits j m.0 false rest m.1,
        members_fit ms (put k m.0 found) all true ts m.2,
        put_weight k m.0 found,
      )

-- ---- the whole text

whole : (o : Option (json.Json × List Token)) (d : Data)
    → option_and_then of_json (option_and_then (λ p. json.if_last p.0 p.1) o) ≡ Some d
    → (j : json.Json) × (o ≡ Some (j, [])) × (of_json j ≡ Some d)
whole None d h = absurd (cc)
whole (Some (j, [])) d h = (j, refl, h)
whole (Some (j, t ∷ ts)) d h = absurd (cc)

pub read_weight : (text : List ℕ) (d : Data) → read text ≡ Some d → weight d ≤ length text
read_weight text d h =
    let w = whole (json.value max_depth (tokens text)) d h in
    let spelled : tokens text ≡ tree.json_tokens w.0 ++ [] =
    value-json_tokens_back max_depth (tokens text) [] w.0 w.1 in
    let size : tokens_weight false (tokens text) ≡ tokens_weight false (tree.json_tokens w.0 ++ []) =
    ap (tokens_weight false) spelled in
    omega (arith, size, value_fits w.0 d false [] w.2, tokens_fit text)
