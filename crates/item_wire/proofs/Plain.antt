-- The compact text of a record has a reading, which is the record.
use Rattle.std.proofs.Common.{◌≡◌, ℕ, zero, suc, ◌≤◌, ◌<◌, ◌^◌, max, Bool, true, false, List, [], ◌∷◌, ◌++◌, Option, Some, IsUtf8, decimal, refl, sym, ap, ◌∙◌, arith, append-nil}
use Rattle.std.specs.Prelude.{option_map, option_and_then, ⊤}
use Rattle.std.proofs.lemmas.Str.{IsUtf8-append, IsUtf8-from_ascii}
use Rattle.std.proofs.lemmas.Str.Ascii.{IsAscii-nil, IsAscii-cons}
use Rattle.std.proofs.lemmas.Fmt.{IsAscii-decimal}
use Rattle.json.specs.Token.{Token}
use Rattle.json.specs.Lex.{tokens}
use Rattle.json.specs.Print.{quoted}
use Rattle.json.specs.Json as json
use Rattle.json.specs.Tree as tree
use Rattle.json.proofs.Printed.Decimals.{IsNumber-decimal}
use Rattle.json.proofs.Printed.Tokens.{tokens-print}
use Rattle.json.proofs.Printed.Trees.{value-json_tokens, ArePrintable-json_tokens}
use Rattle.json.proofs.Printed.Utf8.{IsUtf8-quoted}
use Rattle.serde_json.specs.Data.{unsigned, negative, float, Data, null, boolean, number, string, array, object, Items, no_items, item, Members, no_members, member}
use Rattle.serde_json.specs.Read.{of_json, of_items, of_members, read, max_depth}
use Rattle.serde_json.specs.Written.{outline, items_outline, members_outline, compact_text, items_text, members_text, comma_if}
use Rattle.serde_json.proofs.Numbers.{number_of-decimal}
use Rattle.serde_json.proofs.Texts.{print-outline}

-- a whole number of 64 bits, a text, or a list of such values that nests at most so deep
abbrev mutual
  pub IsPlain : ℕ → Data → Type 0
  IsPlain k null = ⊥
  IsPlain k (boolean b) = ⊥
  IsPlain k (number (unsigned n)) = n < 2 ^ 64
  IsPlain k (number (negative z)) = ⊥
  IsPlain k (number (float x)) = ⊥
  IsPlain k (string s) = IsUtf8 s
  IsPlain zero (array ds) = ⊥
  IsPlain (suc k) (array ds) = ArePlain k ds
  IsPlain k (object ms) = ⊥

  pub ArePlain : ℕ → Items → Type 0
  ArePlain k no_items = ⊤
  ArePlain k (item d ds) = IsPlain k d × ArePlain k ds

mutual
  reads : (k : ℕ) (d : Data) → IsPlain k d → of_json (outline d) ≡ Some d
  reads k null h = absurd h
  reads k (boolean b) h = absurd h
  reads k (number (unsigned n)) h = rw (number_of-decimal n h) refl
  reads k (number (negative z)) h = absurd h
  reads k (number (float x)) h = absurd h
  reads k (string s) h = refl
  reads zero (array ds) h = absurd h
  reads (suc k) (array ds) h = rw (read_items k ds h) refl
  reads k (object ms) h = absurd h

  read_items : (k : ℕ) (ds : Items) → ArePlain k ds → of_items (items_outline ds) ≡ Some ds
  read_items k no_items h = refl
  read_items k (item d ds) h = rw (reads k d h.0, read_items k ds h.1) refl

mutual
  numbers : (k : ℕ) (d : Data) → IsPlain k d → tree.HasNumbers (outline d)
  numbers k null h = absurd h
  numbers k (boolean b) h = absurd h
  numbers k (number (unsigned n)) h = IsNumber-decimal n h
  numbers k (number (negative z)) h = absurd h
  numbers k (number (float x)) h = absurd h
  numbers k (string s) h = tt
  numbers zero (array ds) h = absurd h
  numbers (suc k) (array ds) h = item_numbers k ds h
  numbers k (object ms) h = absurd h

  item_numbers : (k : ℕ) (ds : Items) → ArePlain k ds → tree.ItemsHaveNumbers (items_outline ds)
  item_numbers k no_items h = tt
  item_numbers k (item d ds) h = (numbers k d h.0, item_numbers k ds h.1)

greatest : (a b k : ℕ) → a ≤ k → b ≤ k → max a b ≤ k
greatest a b k p q = omega (arith, p, q)

mutual
  nests : (k : ℕ) (d : Data) → IsPlain k d → tree.depth (outline d) ≤ k
  nests k null h = absurd h
  nests k (boolean b) h = absurd h
  nests k (number (unsigned n)) h = omega arith
  nests k (number (negative z)) h = absurd h
  nests k (number (float x)) h = absurd h
  nests k (string s) h = omega arith
  nests zero (array ds) h = absurd h
  nests (suc k) (array ds) h = omega (arith, items_nest k ds h)
  nests k (object ms) h = absurd h

  items_nest : (k : ℕ) (ds : Items) → ArePlain k ds → tree.items_depth (items_outline ds) ≤ k
  items_nest k no_items h = omega arith
  items_nest k (item d ds) h = greatest _ _ k (nests k d h.0) (items_nest k ds h.1)

one_byte : (c : ℕ) → c < 128 → IsUtf8 (c ∷ [])
one_byte c h = IsUtf8-from_ascii (c ∷ []) (IsAscii-cons c [] h IsAscii-nil)

commas : (later : Bool) → IsUtf8 (comma_if later)
commas true = one_byte 44 (omega arith)
commas false = IsUtf8-from_ascii [] IsAscii-nil

mutual
  is_text : (k : ℕ) (d : Data) → IsPlain k d → IsUtf8 (compact_text d)
  is_text k null h = absurd h
  is_text k (boolean b) h = absurd h
  is_text k (number (unsigned n)) h = IsUtf8-from_ascii (decimal n) (IsAscii-decimal n h)
  is_text k (number (negative z)) h = absurd h
  is_text k (number (float x)) h = absurd h
  is_text k (string s) h = IsUtf8-quoted s h
  is_text zero (array ds) h = absurd h
  is_text (suc k) (array ds) h = IsUtf8-append (91 ∷ []) (items_text false ds) (one_byte 91 (omega arith)) (are_text k false ds h)
  is_text k (object ms) h = absurd h

  are_text : (k : ℕ) (later : Bool) (ds : Items) → ArePlain k ds → IsUtf8 (items_text later ds)
  are_text k later no_items h = one_byte 93 (omega arith)
  are_text k later (item d ds) h =
      IsUtf8-append (comma_if later) (compact_text d ++ items_text true ds) (commas later)
      (IsUtf8-append (compact_text d) (items_text true ds) (is_text k d h.0) (are_text k true ds h.1))

-- members whose names are texts and whose values are plain
abbrev pub PlainMembers : ℕ → Members → Type 0
PlainMembers k no_members = ⊤
PlainMembers k (member name d ms) = IsUtf8 name × IsPlain k d × PlainMembers k ms

member_numbers : (k : ℕ) (ms : Members) → PlainMembers k ms → tree.MembersHaveNumbers (members_outline ms)
member_numbers k no_members h = tt
member_numbers k (member name d ms) h = (numbers k d h.1, member_numbers k ms h.2)

members_nest : (k : ℕ) (ms : Members) → PlainMembers k ms → tree.members_depth (members_outline ms) ≤ k
members_nest k no_members h = omega arith
members_nest k (member name d ms) h = greatest _ _ k (nests k d h.1) (members_nest k ms h.2)

members_are_text : (k : ℕ) (later : Bool) (ms : Members) → PlainMembers k ms → IsUtf8 (members_text later ms)
members_are_text k later no_members h = one_byte 125 (omega arith)
members_are_text k later (member name d ms) h =
    IsUtf8-append (comma_if later) (quoted name ++ 58 ∷ (compact_text d ++ members_text true ms)) (commas later)
    (IsUtf8-append (quoted name) (58 ∷ (compact_text d ++ members_text true ms)) (IsUtf8-quoted name h.0)
    (IsUtf8-append (58 ∷ []) (compact_text d ++ members_text true ms) (one_byte 58 (omega arith))
    (IsUtf8-append (compact_text d) (members_text true ms) (is_text k d h.1) (members_are_text k true ms h.2))))

-- the members, each read
abbrev pub read_one_by_one : Members → Members → Members
read_one_by_one no_members found = found
read_one_by_one (member name d ms) found = read_one_by_one ms (Rattle.serde_json.specs.Data.put name d found)

members_read : (k : ℕ) (ms found : Members) → PlainMembers k ms → of_members (members_outline ms) found ≡ Some (read_one_by_one ms found)
members_read k no_members found h = refl
members_read k (member name d ms) found h =
    rw (reads k d h.1) (members_read k ms (Rattle.serde_json.specs.Data.put name d found) h.2)

-- what a value that is the whole text reads as
abbrev whole : Option (json.Json × List Token) → Option Data
whole o = option_and_then of_json (option_and_then (λ p. json.if_last p.0 p.1) o)

-- an object of plain members, which are in order, is what its text reads as
pub object_is_text : (k : ℕ) (ms : Members) → PlainMembers k ms → IsUtf8 (compact_text (object ms))
object_is_text k ms h = IsUtf8-append (123 ∷ []) (members_text false ms) (one_byte 123 (omega arith)) (members_are_text k false ms h)

pub object_is_read : (k : ℕ) (ms : Members) → PlainMembers k ms → read_one_by_one ms no_members ≡ ms → k < 127 → read (compact_text (object ms)) ≡ Some (object ms)
object_is_read k ms h order shallow =
    let j : json.Json = outline (object ms) in
    let same : tokens (compact_text (object ms)) ≡ tree.json_tokens j =
    ap tokens (sym (print-outline (object ms))) ∙ tokens-print (tree.json_tokens j) (ArePrintable-json_tokens j (member_numbers k ms h)) in
    let deep : tree.depth j ≤ max_depth = omega (arith, members_nest k ms h, shallow) in
    ap whole (ap (json.value max_depth) (same ∙ sym (append-nil _)) ∙ value-json_tokens j max_depth [] deep)
    ∙ ap (option_map object) (members_read k ms no_members h ∙ ap (λ (x : Members). Some x) order)
