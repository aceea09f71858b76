-- Spellings that a reader of memberships passes over.
use Rattle.std.proofs.Common.{◌≡◌, ◌+◌, ◌*◌, ◌/◌, ◌-◌, ◌^◌, ℕ, suc, List, [], ◌∷◌, ◌++◌, length, drop, ap, sym, ◌∙◌, arith, Some}
use Rattle.std.proofs.lemmas.List.{append_assoc, length-append, drop_at}
use Rattle.byteorder.specs.Endian.{big_number}
use Rattle.rt_membership.specs.declared.asked.Asked.{Asked}
use Rattle.rt_membership.specs.Entries.{AgreeIn, asked_of}
use Rattle.rt_membership.specs.Memberships.{before_reached, entries_behind}
use Rattle.rt_membership.specs.Written.{reach_value}

abbrev asked : ℕ → ℕ → ℕ → Asked
asked bits origin n = record { length = bits; origin = origin; target = record { 0 = n * 2 ^ (96 - bits) } }

pub trailing_passed : (bits : ℕ) (p q : List ℕ) → AgreeIn bits p q
    → asked_of (record { bits = bits; octets = p }) ≡ asked_of (record { bits = bits; octets = q })
trailing_passed bits p q agree =
    ap (λ (n : ℕ). asked bits n (big_number 8 (drop 4 p) / 2 ^ (96 - bits))) agree.origin ∙ ap (asked bits (big_number 4 q)) agree.target

pub hop_passed : (next_hop entries : List ℕ) (reserved : ℕ)
    → entries_behind before_reached (Some (reach_value (length next_hop) next_hop reserved entries)) ≡ entries
hop_passed next_hop entries reserved =
    let value = reach_value (length next_hop) next_hop reserved entries in
    let places : 5 + length next_hop ≡ suc (suc (suc (suc (length next_hop + 1)))) = omega arith in
    let flat : next_hop ++ reserved ∷ entries ≡ (next_hop ++ reserved ∷ []) ++ entries = sym (append_assoc next_hop (reserved ∷ []) entries) in
    ap (λ (n : ℕ). drop n value) places ∙ ap (drop (length next_hop + 1)) flat
    ∙ drop_at (next_hop ++ reserved ∷ []) entries (length next_hop + 1) (length-append next_hop (reserved ∷ []))
