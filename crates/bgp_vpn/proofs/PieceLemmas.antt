-- Octets that are pieces, taken one after the other.
use Rattle.std.proofs.Common.{◌≡◌, ◌≤◌, ◌<◌, ℕ, zero, suc, List, [], ◌∷◌, length, take, drop, get_or, refl, ap, sym, ◌∙◌, arith, Bool, true, false, ◌&&◌, ◌-◌, subst}
use Rattle.bgp_wire.proofs.Octets.{range_from}
use Rattle.bgp_vpn.specs.Pieces.{are_pieces_behind}

-- a piece that the octets hold whole
pub skipped : (good : ℕ → List ℕ → Bool) (len : ℕ → List ℕ → ℕ) (n : ℕ) (xs : List ℕ) → n ≤ length xs
    → are_pieces_behind good len n xs ≡ are_pieces_behind good len 0 (drop n xs)
skipped good len zero xs h = refl
skipped good len (suc n) [] h = absurd (omega arith)
skipped good len (suc n) (x ∷ xs) h = skipped good len n xs (omega arith)

-- a piece that they do not
pub cut : (good : ℕ → List ℕ → Bool) (len : ℕ → List ℕ → ℕ) (n : ℕ) (xs : List ℕ) → length xs < n
    → are_pieces_behind good len n xs ≡ false
cut good len zero xs h = absurd (omega arith)
cut good len (suc n) [] h = refl
cut good len (suc n) (x ∷ xs) h = cut good len n xs (omega arith)

pub cut_piece : (good : ℕ → List ℕ → Bool) (len : ℕ → List ℕ → ℕ) (xs : List ℕ) → 0 < length xs
    → good (get_or xs 0 0) (drop 1 xs) ≡ true → length (drop 1 xs) < len (get_or xs 0 0) (drop 1 xs) → are_pieces_behind good len 0 xs ≡ false
cut_piece good len [] h ok few = absurd (omega arith)
cut_piece good len (x ∷ xs) h ok few =
    ap (λ (b : Bool). b && are_pieces_behind good len (len x xs) xs) ok ∙ cut good len (len x xs) xs few

pub whole_piece : (good : ℕ → List ℕ → Bool) (len : ℕ → List ℕ → ℕ) (xs : List ℕ) → 0 < length xs
    → good (get_or xs 0 0) (drop 1 xs) ≡ true → len (get_or xs 0 0) (drop 1 xs) ≤ length (drop 1 xs)
    → are_pieces_behind good len 0 xs ≡ are_pieces_behind good len 0 (drop (len (get_or xs 0 0) (drop 1 xs)) (drop 1 xs))
whole_piece good len [] h ok enough = absurd (omega arith)
whole_piece good len (x ∷ xs) h ok enough =
    ap (λ (b : Bool). b && are_pieces_behind good len (len x xs) xs) ok ∙ skipped good len (len x xs) xs enough

pub both : (a b : Bool) → a ≡ true → b ≡ true → (a && b) ≡ true
both true b ha hb = hb
both false b ha hb = cc

-- the same, where what stands behind the first octet has a name
pub piece_cut : (good : ℕ → List ℕ → Bool) (len : ℕ → List ℕ → ℕ) (xs rest : List ℕ) (n : ℕ) → 0 < length xs → rest ≡ drop 1 xs
    → good (get_or xs 0 0) rest ≡ true → n ≡ len (get_or xs 0 0) rest → length rest < n → are_pieces_behind good len 0 xs ≡ false
piece_cut good len xs rest n h is ok size few =
    let P : List ℕ → Type 0 = λ r. good (get_or xs 0 0) r ≡ true in
    let Q : List ℕ → Type 0 = λ r. length r < len (get_or xs 0 0) r in
    cut_piece good len xs h (subst P is ok) (subst Q is (subst (λ (m : ℕ). length rest < m) size few))

pub piece_whole : (good : ℕ → List ℕ → Bool) (len : ℕ → List ℕ → ℕ) (xs rest : List ℕ) (n : ℕ) → 0 < length xs → rest ≡ drop 1 xs
    → good (get_or xs 0 0) rest ≡ true → n ≡ len (get_or xs 0 0) rest → n ≤ length rest
    → are_pieces_behind good len 0 xs ≡ are_pieces_behind good len 0 (take (length rest - n) (drop n rest))
piece_whole good len xs rest n h is ok size enough =
    let P : List ℕ → Type 0 = λ r. good (get_or xs 0 0) r ≡ true in
    let Q : List ℕ → Type 0 = λ r. len (get_or xs 0 0) r ≤ length r in
    let R : List ℕ → Type 0 = λ r. are_pieces_behind good len 0 xs ≡ are_pieces_behind good len 0 (drop (len (get_or xs 0 0) r) r) in
    let whole = whole_piece good len xs h (subst P is ok) (subst Q is (subst (λ (m : ℕ). m ≤ length rest) size enough)) in
    subst R (sym is) whole
    ∙ ap (λ (m : ℕ). are_pieces_behind good len 0 (drop m rest)) (sym size)
    ∙ ap (are_pieces_behind good len 0) (sym (range_from n rest))
