-- The attributes that are known, each with its flags, the lengths that its value may have, and the fault of another
-- length.
use Rattle.std.specs.Prelude.{ℕ, List, [], ◌∷◌, ◌==◌, Option, Some, None, if◌then◌else◌}
use Rattle.ov_table.specs.Table.{cell_of}

-- ORIGIN, AS_PATH, NEXT_HOP, MULTI_EXIT_DISC, LOCAL_PREF, ATOMIC_AGGREGATE (RFC 4271, section 5), MP_REACH_NLRI,
-- MP_UNREACH_NLRI (RFC 4760), EXTENDED COMMUNITIES (RFC 4360): the flags Optional and Transitive, the least length, the
-- greatest length, and the subcode of an UPDATE message error
abbrev pub attribute_table : List (List ℕ)
attribute_table =
    (0x40 ∷ 1 ∷ 1 ∷ 5 ∷ [])
    ∷ (0x40 ∷ 0 ∷ 65535 ∷ 5 ∷ [])
    ∷ (0x40 ∷ 4 ∷ 4 ∷ 5 ∷ [])
    ∷ (0x80 ∷ 4 ∷ 4 ∷ 5 ∷ [])
    ∷ (0x40 ∷ 4 ∷ 4 ∷ 5 ∷ [])
    ∷ (0x40 ∷ 0 ∷ 0 ∷ 5 ∷ [])
    ∷ (0x80 ∷ 5 ∷ 65535 ∷ 9 ∷ [])
    ∷ (0x80 ∷ 3 ∷ 65535 ∷ 9 ∷ [])
    ∷ (0xC0 ∷ 0 ∷ 65535 ∷ 5 ∷ [])
    ∷ []

-- the row of a type
abbrev pub row_of : ℕ → Option ℕ
row_of kind =
    if kind == 1 then Some 0
    else (if kind == 2 then Some 1
    else (if kind == 3 then Some 2
    else (if kind == 4 then Some 3
    else (if kind == 5 then Some 4
    else (if kind == 6 then Some 5
    else (if kind == 14 then Some 6
    else (if kind == 15 then Some 7
    else (if kind == 16 then Some 8 else None))))))))

-- the numbers of a row
abbrev pub flags_in : ℕ → ℕ
flags_in row = cell_of attribute_table row 0

abbrev pub least_in : ℕ → ℕ
least_in row = cell_of attribute_table row 1

abbrev pub greatest_in : ℕ → ℕ
greatest_in row = cell_of attribute_table row 2

abbrev pub subcode_in : ℕ → ℕ
subcode_in row = cell_of attribute_table row 3
