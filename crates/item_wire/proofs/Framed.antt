-- A record on a link is told by its octets.
use Rattle.std.proofs.Common.{◌≡◌, ℕ, ◌+◌, ◌-◌, ◌≤◌, List, ◌++◌, length, drop, Some, Ok, refl, ap, ◌∙◌, arith, append_assoc, length-append, le-leb}
use Rattle.std.proofs.lemmas.Bool.{le-ltb}
use Rattle.std.proofs.lemmas.List.{take_at, drop_at}
use Rattle.byteorder.specs.Endian.{big_bytes, big_number}
use Rattle.item_wire.specs.Frames.{framed, frame_of}

reads_back : (x : ℕ) (rest : List ℕ) → x ≤ 65536 → big_number 4 (big_bytes 4 x ++ rest) ≡ x
reads_back x rest h = omega (arith, h)

pub framed_is_read : (json more : List ℕ) → length json ≤ 65536 → frame_of (framed json ++ more) ≡ Ok (Some json)
framed_is_read json more h =
    let enough : Rattle.std.proofs.Common.ltb (length (framed json ++ more)) 4 ≡ Rattle.std.proofs.Common.false = le-ltb _ _ (omega (arith, length-append (framed json) more, length-append (big_bytes 4 (length json)) json)) in
    let number : big_number 4 (framed json ++ more) ≡ length json = ap (big_number 4) (append_assoc (big_bytes 4 (length json)) json more) ∙ reads_back (length json) (json ++ more) h in
    let rest : drop 4 (framed json ++ more) ≡ json ++ more = ap (drop 4) (append_assoc (big_bytes 4 (length json)) json more) ∙ drop_at (big_bytes 4 (length json)) (json ++ more) 4 refl in
    let fits : Rattle.std.proofs.Common.leb (length json) 65536 ≡ Rattle.std.proofs.Common.true = le-leb _ _ h in
    let all : Rattle.std.proofs.Common.ltb (length (json ++ more)) (length json) ≡ Rattle.std.proofs.Common.false = le-ltb _ _ (omega (arith, length-append json more)) in
    rw (enough, number, rest, fits, all, take_at json more (length json) refl) refl
