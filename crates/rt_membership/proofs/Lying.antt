-- Entries where they lie, and zeros behind them.
use Rattle.std.proofs.Common.{◌≡◌, ◌*◌, ◌^◌, ◌+◌, ℕ, zero, suc, List, [], ◌∷◌, ◌++◌, drop, get_or, replicate, refl, ap, sym, ◌∙◌}
use Rattle.std.proofs.lemmas.List.{get_or-drop}
use Rattle.byteorder.specs.Endian.{big_from, big_number}

zero_at : (xs : List ℕ) (m i : ℕ) → get_or (xs ++ replicate m 0) i 0 ≡ get_or xs i 0
zero_at [] zero i = refl
zero_at [] (suc m) zero = refl
zero_at [] (suc m) (suc i) = zero_at [] m i
zero_at (x ∷ xs) m zero = refl
zero_at (x ∷ xs) m (suc i) = zero_at xs m i

-- a number of octets does not see zeros behind them
pub zeros_read : (i n m : ℕ) (xs : List ℕ) → big_from i n (xs ++ replicate m 0) ≡ big_from i n xs
zeros_read i zero m xs = refl
zeros_read i (suc n) m xs =
    ap (λ (d : ℕ). d * 256 ^ n + big_from (suc i) n (xs ++ replicate m 0)) (zero_at xs m i)
    ∙ ap (λ (r : ℕ). get_or xs i 0 * 256 ^ n + r) (zeros_read (suc i) n m xs)

zeros_behind : (k i n m : ℕ) (xs : List ℕ) → big_from i n (drop k (xs ++ replicate m 0)) ≡ big_from i n (drop k xs)
zeros_behind k i zero m xs = refl
zeros_behind k i (suc n) m xs =
    let digit : get_or (drop k (xs ++ replicate m 0)) i 0 ≡ get_or (drop k xs) i 0 =
    get_or-drop k (xs ++ replicate m 0) i 0 ∙ zero_at xs m (k + i) ∙ sym (get_or-drop k xs i 0) in
    ap (λ (d : ℕ). d * 256 ^ n + big_from (suc i) n (drop k (xs ++ replicate m 0))) digit
    ∙ ap (λ (r : ℕ). get_or (drop k xs) i 0 * 256 ^ n + r) (zeros_behind k (suc i) n m xs)

-- the two numbers of an entry, which is filled up with zeros
pub first_read : (filled octets : List ℕ) (m : ℕ) → filled ≡ octets ++ replicate m 0 → big_number 4 filled ≡ big_number 4 octets
first_read filled octets m is = ap (big_number 4) is ∙ zeros_read 0 4 m octets

pub second_read : (filled octets : List ℕ) (m : ℕ) → filled ≡ octets ++ replicate m 0
    → big_number 8 (drop 4 filled) ≡ big_number 8 (drop 4 octets)
second_read filled octets m is =
    ap (λ (xs : List ℕ). big_number 8 (drop 4 xs)) is ∙ zeros_behind 4 0 8 m octets
