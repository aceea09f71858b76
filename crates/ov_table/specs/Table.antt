-- Tables of numbers, as the list of their rows.
use Rattle.std.specs.Prelude.{ℕ, List, [], slice_index, slice_index_or}

-- the number in this row and column, both counted from 0
abbrev pub cell_of : List (List ℕ) → ℕ → ℕ → ℕ
cell_of rows row column = slice_index (slice_index_or rows row []) column
