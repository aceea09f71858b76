-- What octets begin with, whatever follows them.
use Rattle.std.proofs.Common.{◌≡◌, ◌<◌, ◌≤◌, ◌+◌, ℕ, List, ◌++◌, length, take, drop, Some, None, Ok, Err, inl, inr, refl, sym, ◌∙◌, ap, subst, length-append, arith, le-leb}
use Rattle.std.proofs.lemmas.Bool.{cases_lt, le-ltb, lt-leb, lt-ltb}
use Rattle.std.proofs.lemmas.List.{drop-append-le, length-drop, length-take-le, take-append-le}
use Rattle.byteorder.specs.Endian.{big_number}
use Rattle.byteorder.specs.Numbers.{big_from-append}
use Rattle.item_wire.specs.Frames.{frame_of}
use Rattle.item_wire.specs.declared.framing.TooLong.{TooLong}

size_stays : (a b : List ℕ) → 4 ≤ length a → big_number 4 (a ++ b) ≡ big_number 4 a
size_stays a b four = big_from-append 4 a b four

frame_long : (a : List ℕ) → 4 ≤ length a → 65536 < big_number 4 a → frame_of a ≡ Err (record { length = big_number 4 a })
frame_long a four long = rw (le-ltb (length a) 4 four, lt-leb (big_number 4 a) 65536 long) refl

frame_whole : (a : List ℕ) → 4 ≤ length a → big_number 4 a ≤ 65536 → big_number 4 a ≤ length (drop 4 a)
    → frame_of a ≡ Ok (Some (take (big_number 4 a) (drop 4 a)))
frame_whole a four short enough =
    rw (le-ltb (length a) 4 four, le-leb (big_number 4 a) 65536 short, le-ltb (length (drop 4 a)) (big_number 4 a) enough) refl

frame_few : (a : List ℕ) → length a < 4 → frame_of a ≡ Ok None
frame_few a few = rw (lt-ltb (length a) 4 few) refl

frame_part : (a : List ℕ) → 4 ≤ length a → big_number 4 a ≤ 65536 → length (drop 4 a) < big_number 4 a → frame_of a ≡ Ok None
frame_part a four short few =
    rw (le-ltb (length a) 4 four, le-leb (big_number 4 a) 65536 short, lt-ltb (length (drop 4 a)) (big_number 4 a) few) refl

-- part of a record, which is shorter than the longest; a record that is too long, whatever follows; or a whole one
pub data FrameIs (a : List ℕ) : Type 0 where
  part_of : frame_of a ≡ Ok None → length a < 65540 → FrameIs a
  long_of : (n : ℕ) → 4 ≤ length a → ((b : List ℕ) → frame_of (a ++ b) ≡ Err (record { length = n })) → FrameIs a
  whole_of : (json : List ℕ) → 4 + length json ≤ length a → ((b : List ℕ) → frame_of (a ++ b) ≡ Ok (Some json)) → FrameIs a

long_frame : (a : List ℕ) → 4 ≤ length a → 65536 < big_number 4 a → FrameIs a
long_frame a four long = long_of (big_number 4 a) four (λ b.
    let same = size_stays a b four in
    frame_long (a ++ b) (omega (arith, four, length-append a b)) (subst (λ (n : ℕ). 65536 < n) (sym same) long)
    ∙ ap (λ (n : ℕ). let long : TooLong = record { length = n } in Err long) same)

whole_frame : (a : List ℕ) → 4 ≤ length a → big_number 4 a ≤ 65536 → big_number 4 a ≤ length (drop 4 a) → FrameIs a
whole_frame a four short enough =
    let json = take (big_number 4 a) (drop 4 a) in
    let size : length json ≡ big_number 4 a = length-take-le (big_number 4 a) (drop 4 a) enough in
    whole_of json (omega (arith, size, four, enough, length-drop 4 a)) (λ b.
    let same = size_stays a b four in
    let rest : drop 4 (a ++ b) ≡ drop 4 a ++ b = drop-append-le 4 a b four in
    let longer = ap length rest in
    let enough' : big_number 4 (a ++ b) ≤ length (drop 4 (a ++ b)) = omega (arith, same, longer, length-append (drop 4 a) b, enough) in
    let json_is : take (big_number 4 (a ++ b)) (drop 4 (a ++ b)) ≡ json =
    ap (λ (n : ℕ). take n (drop 4 (a ++ b))) same ∙ ap (take (big_number 4 a)) rest ∙ take-append-le (big_number 4 a) (drop 4 a) b enough in
    frame_whole (a ++ b) (omega (arith, four, length-append a b)) (omega (arith, same, short)) enough'
    ∙ ap (λ (j : List ℕ). Ok (Some j)) json_is)

pub read_frame : (a : List ℕ) → FrameIs a
read_frame a = elim (cases_lt (length a) 4) [
  | inl few ↦ part_of (frame_few a few) (omega (arith, few))
  | inr four ↦ elim (cases_lt 65536 (big_number 4 a)) [
    | inl long ↦ long_frame a four long
    | inr short ↦ elim (cases_lt (length (drop 4 a)) (big_number 4 a)) [
      | inl few ↦ part_of (frame_part a four short few) (omega (arith, short, few, length-drop 4 a))
      | inr enough ↦ whole_frame a four short enough
    ]
  ]
]
