-- Numbers in octets, and octets of a part of a list.
use Rattle.std.proofs.Common.{◌≡◌, ◌<◌, ◌≤◌, ℕ, zero, suc, ◌+◌, ◌-◌, List, [], ◌∷◌, ◌++◌, length, take, drop, refl, ap, sym, arith}
use Rattle.std.proofs.lemmas.List.{get_or-drop, take_all, length-drop}
use Rattle.std.proofs.lemmas.Nat.{be_bytes_2, be_bytes_4}
use Rattle.byteorder.specs.Endian.{big_bytes, big_number}
use Rattle.bgp_wire.specs.Messages.{AreOctets}

pub AreOctets-drop : (n : ℕ) (xs : List ℕ) → AreOctets xs → AreOctets (drop n xs)
AreOctets-drop n xs h k = let e = get_or-drop n xs k 0 in omega (arith, e, h (n + k))

pub AreOctets-take : (n : ℕ) (xs : List ℕ) → AreOctets xs → AreOctets (take n xs)
AreOctets-take zero [] h k = h k
AreOctets-take (suc n) [] h k = h k
AreOctets-take zero (x ∷ xs) h k = omega arith
AreOctets-take (suc n) (x ∷ xs) h zero = h 0
AreOctets-take (suc n) (x ∷ xs) h (suc k) = AreOctets-take n xs (λ i. h (suc i)) k

pair_octets : (a b : ℕ) → a < 256 → b < 256 → AreOctets (a ∷ b ∷ [])
pair_octets a b ha hb zero = ha
pair_octets a b ha hb (suc zero) = hb
pair_octets a b ha hb (suc (suc k)) = omega arith

four_octets : (a b c d : ℕ) → a < 256 → b < 256 → c < 256 → d < 256 → AreOctets (a ∷ b ∷ c ∷ d ∷ [])
four_octets a b c d ha hb hc hd zero = ha
four_octets a b c d ha hb hc hd (suc zero) = hb
four_octets a b c d ha hb hc hd (suc (suc zero)) = hc
four_octets a b c d ha hb hc hd (suc (suc (suc zero))) = hd
four_octets a b c d ha hb hc hd (suc (suc (suc (suc k)))) = omega arith

-- two octets are those of the number in them
pub bytes_of_two : (a b : ℕ) (xs : List ℕ) → a < 256 → b < 256 → big_bytes 2 (big_number 2 (a ∷ b ∷ xs)) ≡ a ∷ b ∷ []
bytes_of_two a b xs ha hb = be_bytes_2 (a ∷ b ∷ []) (big_number 2 (a ∷ b ∷ xs)) refl (pair_octets a b ha hb) (omega arith)

pub bytes_of_four : (a b c d : ℕ) (xs : List ℕ) → a < 256 → b < 256 → c < 256 → d < 256
    → big_bytes 4 (big_number 4 (a ∷ b ∷ c ∷ d ∷ xs)) ≡ a ∷ b ∷ c ∷ d ∷ []
bytes_of_four a b c d xs ha hb hc hd =
    be_bytes_4 (a ∷ b ∷ c ∷ d ∷ []) (big_number 4 (a ∷ b ∷ c ∷ d ∷ xs)) refl (four_octets a b c d ha hb hc hd) (omega arith)

-- a list begins with the octets of the number in its first two
pub split_two : (xs : List ℕ) → AreOctets xs → 2 ≤ length xs → xs ≡ big_bytes 2 (big_number 2 xs) ++ drop 2 xs
split_two [] h le = absurd (omega arith)
split_two (a ∷ []) h le = absurd (omega arith)
split_two (a ∷ b ∷ xs) h le = ap (λ (r : List ℕ). r ++ xs) (sym (bytes_of_two a b xs (h 0) (h 1)))

pub number_below_two : (xs : List ℕ) → AreOctets xs → big_number 2 xs < 65536
number_below_two xs h = let a = h 0 in let b = h 1 in omega arith

pub number_below_four : (xs : List ℕ) → AreOctets xs → big_number 4 xs < 4294967296
number_below_four xs h = let a = h 0 in let b = h 1 in let c = h 2 in let d = h 3 in omega arith

-- `&xs[n..]`
pub range_from : (n : ℕ) (xs : List ℕ) → take (length xs - n) (drop n xs) ≡ drop n xs
range_from n xs = take_all (length xs - n) (drop n xs) (omega (arith, length-drop n xs))
