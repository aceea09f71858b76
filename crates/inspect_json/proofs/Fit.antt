-- The compact text of a value that is fit has a reading, which is the value.
use Rattle.std.proofs.Common.{◌≡◌, ℕ, zero, suc, ◌≤◌, ◌<◌, ◌^◌, max, Bool, true, false, List, [], ◌∷◌, ◌++◌, Option, Some, IsUtf8, codes, decimal, refl, sym, ap, ◌∙◌, arith, append-nil}
use Rattle.std.specs.Prelude.{option_map, option_and_then, ⊤}
use Rattle.std.proofs.lemmas.Str.{IsUtf8-append, IsUtf8-from_ascii}
use Rattle.std.proofs.lemmas.Str.Ascii.{IsAscii-nil, IsAscii-cons}
use Rattle.std.proofs.lemmas.Fmt.{IsAscii-decimal}
use Rattle.json.specs.Token.{Token}
use Rattle.json.specs.Lex.{tokens}
use Rattle.json.specs.Print.{quoted}
use Rattle.json.specs.Json as json
use Rattle.json.specs.Tree as tree
use Rattle.json.proofs.Printed.Decimals.{IsNumber-decimal}
use Rattle.json.proofs.Printed.Tokens.{tokens-print}
use Rattle.json.proofs.Printed.Trees.{value-json_tokens, ArePrintable-json_tokens}
use Rattle.json.proofs.Printed.Utf8.{IsUtf8-quoted, IsUtf8-are_ascii}
use Rattle.serde_json.specs.Data.{unsigned, negative, float, Data, null, boolean, number, string, array, object, Items, no_items, item, Members, no_members, member, put}
use Rattle.serde_json.specs.Read.{of_json, of_items, of_members, read, max_depth}
use Rattle.serde_json.specs.Written.{outline, items_outline, members_outline, compact_text, items_text, members_text, comma_if}
use Rattle.serde_json.proofs.Numbers.{number_of-decimal}
use Rattle.serde_json.proofs.Texts.{print-outline}
use Rattle.ov_io.proofs.JsonLaws.{json_of_text}
use Rattle.inspect_json.specs.Form.{IsReadBack}
pub use Rattle.inspect_json.proofs.Fits.{AreFit, HasFit, IsFit, read_one_by_one}
use Rattle.inspect_json.proofs.OneLine.{one_line}

mutual
  reads : (k : ℕ) (d : Data) → IsFit k d → of_json (outline d) ≡ Some d
  reads k null h = refl
  reads k (boolean b) h = refl
  reads k (number (unsigned n)) h = rw (number_of-decimal n h) refl
  reads k (number (negative z)) h = absurd h
  reads k (number (float x)) h = absurd h
  reads k (string s) h = refl
  reads zero (array ds) h = absurd h
  reads (suc k) (array ds) h = rw (read_items k ds h) refl
  reads zero (object ms) h = absurd h
  reads (suc k) (object ms) h = ap (option_map object) (read_members k ms no_members h.0 ∙ ap (λ (x : Members). Some x) h.1)

  read_items : (k : ℕ) (ds : Items) → AreFit k ds → of_items (items_outline ds) ≡ Some ds
  read_items k no_items h = refl
  read_items k (item d ds) h = rw (reads k d h.0, read_items k ds h.1) refl

  read_members : (k : ℕ) (ms found : Members) → HasFit k ms → of_members (members_outline ms) found ≡ Some (read_one_by_one ms found)
  read_members k no_members found h = refl
  read_members k (member name d ms) found h = rw (reads k d h.1) (read_members k ms (put name d found) h.2)

mutual
  numbers : (k : ℕ) (d : Data) → IsFit k d → tree.HasNumbers (outline d)
  numbers k null h = tt
  numbers k (boolean b) h = tt
  numbers k (number (unsigned n)) h = IsNumber-decimal n h
  numbers k (number (negative z)) h = absurd h
  numbers k (number (float x)) h = absurd h
  numbers k (string s) h = tt
  numbers zero (array ds) h = absurd h
  numbers (suc k) (array ds) h = item_numbers k ds h
  numbers zero (object ms) h = absurd h
  numbers (suc k) (object ms) h = member_numbers k ms h.0

  item_numbers : (k : ℕ) (ds : Items) → AreFit k ds → tree.ItemsHaveNumbers (items_outline ds)
  item_numbers k no_items h = tt
  item_numbers k (item d ds) h = (numbers k d h.0, item_numbers k ds h.1)

  member_numbers : (k : ℕ) (ms : Members) → HasFit k ms → tree.MembersHaveNumbers (members_outline ms)
  member_numbers k no_members h = tt
  member_numbers k (member name d ms) h = (numbers k d h.1, member_numbers k ms h.2)

greatest : (a b k : ℕ) → a ≤ k → b ≤ k → max a b ≤ k
greatest a b k p q = omega (arith, p, q)

mutual
  nests : (k : ℕ) (d : Data) → IsFit k d → tree.depth (outline d) ≤ k
  nests k null h = omega arith
  nests k (boolean b) h = omega arith
  nests k (number (unsigned n)) h = omega arith
  nests k (number (negative z)) h = absurd h
  nests k (number (float x)) h = absurd h
  nests k (string s) h = omega arith
  nests zero (array ds) h = absurd h
  nests (suc k) (array ds) h = omega (arith, items_nest k ds h)
  nests zero (object ms) h = absurd h
  nests (suc k) (object ms) h = omega (arith, members_nest k ms h.0)

  items_nest : (k : ℕ) (ds : Items) → AreFit k ds → tree.items_depth (items_outline ds) ≤ k
  items_nest k no_items h = omega arith
  items_nest k (item d ds) h = greatest _ _ k (nests k d h.0) (items_nest k ds h.1)

  members_nest : (k : ℕ) (ms : Members) → HasFit k ms → tree.members_depth (members_outline ms) ≤ k
  members_nest k no_members h = omega arith
  members_nest k (member name d ms) h = greatest _ _ k (nests k d h.1) (members_nest k ms h.2)

one_byte : (c : ℕ) → c < 128 → IsUtf8 (c ∷ [])
one_byte c h = IsUtf8-from_ascii (c ∷ []) (IsAscii-cons c [] h IsAscii-nil)

commas : (later : Bool) → IsUtf8 (comma_if later)
commas true = one_byte 44 (omega arith)
commas false = IsUtf8-from_ascii [] IsAscii-nil

truths : (b : Bool) → IsUtf8 (compact_text (boolean b))
truths true = IsUtf8-are_ascii (codes "true") refl
truths false = IsUtf8-are_ascii (codes "false") refl

mutual
  pub is_text : (k : ℕ) (d : Data) → IsFit k d → IsUtf8 (compact_text d)
  is_text k null h = IsUtf8-are_ascii (codes "null") refl
  is_text k (boolean b) h = truths b
  is_text k (number (unsigned n)) h = IsUtf8-from_ascii (decimal n) (IsAscii-decimal n h)
  is_text k (number (negative z)) h = absurd h
  is_text k (number (float x)) h = absurd h
  is_text k (string s) h = IsUtf8-quoted s h
  is_text zero (array ds) h = absurd h
  is_text (suc k) (array ds) h = IsUtf8-append (91 ∷ []) (items_text false ds) (one_byte 91 (omega arith)) (are_text k false ds h)
  is_text zero (object ms) h = absurd h
  is_text (suc k) (object ms) h = IsUtf8-append (123 ∷ []) (members_text false ms) (one_byte 123 (omega arith)) (members_are_text k false ms h.0)

  are_text : (k : ℕ) (later : Bool) (ds : Items) → AreFit k ds → IsUtf8 (items_text later ds)
  are_text k later no_items h = one_byte 93 (omega arith)
  are_text k later (item d ds) h =
      IsUtf8-append (comma_if later) (compact_text d ++ items_text true ds) (commas later)
      (IsUtf8-append (compact_text d) (items_text true ds) (is_text k d h.0) (are_text k true ds h.1))

  members_are_text : (k : ℕ) (later : Bool) (ms : Members) → HasFit k ms → IsUtf8 (members_text later ms)
  members_are_text k later no_members h = one_byte 125 (omega arith)
  members_are_text k later (member name d ms) h =
      IsUtf8-append (comma_if later) (quoted name ++ 58 ∷ (compact_text d ++ members_text true ms)) (commas later)
      (IsUtf8-append (quoted name) (58 ∷ (compact_text d ++ members_text true ms)) (IsUtf8-quoted name h.0)
      (IsUtf8-append (58 ∷ []) (compact_text d ++ members_text true ms) (one_byte 58 (omega arith))
      (IsUtf8-append (compact_text d) (members_text true ms) (is_text k d h.1) (members_are_text k true ms h.2))))

-- what a value that is the whole text reads as
abbrev whole : Option (json.Json × List Token) → Option Data
whole o = option_and_then of_json (option_and_then (λ p. json.if_last p.0 p.1) o)

is_read : (k : ℕ) (d : Data) → IsFit k d → k < 127 → read (compact_text d) ≡ Some d
is_read k d h shallow =
    let j : json.Json = outline d in
    let same : tokens (compact_text d) ≡ tree.json_tokens j =
    ap tokens (sym (print-outline d)) ∙ tokens-print (tree.json_tokens j) (ArePrintable-json_tokens j (numbers k d h)) in
    let deep : tree.depth j ≤ max_depth = omega (arith, nests k d h, shallow) in
    ap whole (ap (json.value max_depth) (same ∙ sym (append-nil _)) ∙ value-json_tokens j max_depth [] deep) ∙ reads k d h

-- a value that is fit and not too deep is what its text reads as
pub is_read_back : (k : ℕ) (d : Data) → IsFit k d → k < 127 → IsReadBack d
is_read_back k d h shallow = record {
  reads = sym (json_of_text (compact_text d) (is_text k d h)) ∙ is_read k d h shallow;
  one_line = one_line k d h;
}
