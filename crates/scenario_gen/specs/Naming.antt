-- Names, addresses and lists by number.
use Rattle.std.specs.Prelude.{ℕ, List, ◌+◌, ◌*◌, ◌++◌, decimal}
use Rattle.std.specs.List.{range_with_len}
use Rattle.ov_types.specs.declared.prefix.Addr.{Addr}

-- the numbers below one, ascending
abbrev pub below : ℕ → List ℕ
below n = range_with_len 0 n

-- a word with a number behind it, in decimal
abbrev pub numbered : List ℕ → ℕ → List ℕ
numbered word n = word ++ decimal n

-- the address of four octets
abbrev pub address : ℕ → ℕ → ℕ → ℕ → Addr
address a b c d = record { 0 = ((a * 256 + b) * 256 + c) * 256 + d }
