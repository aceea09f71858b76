-- What the texts of addresses and prefixes write.
use Rattle.std.specs.Prelude.{ℕ, ◌+◌, ◌-◌, ◌*◌, ◌==◌, ◌&&◌, nat_le, Bool, false, List, [], ◌∷◌, bytes_eq, decimal}
use Rattle.std.specs.Prelude.{Option, Some, None, if◌then◌else◌}
use Rattle.std.specs.List.{before_first, after_first}
use Rattle.std.specs.Str.Parse.{digits_value}
use Rattle.ov_types.specs.Prefix.{Block, prefix_of}
use Rattle.ov_types.specs.Texts.{address_text}

-- parts to base 256 whatever they are, where n is read and part is of the part that goes on
abbrev pub parts_value : ℕ → ℕ → List ℕ → ℕ
parts_value n part [] = n * 256 + part
parts_value n part (c ∷ cs) = if c == 46 then parts_value (n * 256 + part) 0 cs
    else parts_value n (part * 10 + (c - 48)) cs

-- the address of which this is the text: there is one spelling of each
unfoldable pub address_of : List ℕ → Option ℕ
address_of text = if bytes_eq (address_text (parts_value 0 0 text)) text then Some (parts_value 0 0 text) else None

-- whether digits that begin so are a number in decimal: with another digit than 0, or there is no further one
abbrev pub begins_plainly : List ℕ → Bool
begins_plainly [] = false
begins_plainly (c ∷ []) = nat_le 48 c && nat_le c 57
begins_plainly (c ∷ d ∷ cs) = nat_le 49 c && nat_le c 57

-- the number 0 to 32 of which this is the decimal text
unfoldable pub length_of : List ℕ → Option ℕ
length_of text = if bytes_eq (decimal (digits_value 10 text)) text && nat_le (digits_value 10 text) 32
    then Some (digits_value 10 text) else None

abbrev pub is_slash : ℕ → Bool
is_slash c = c == 47

-- the prefix of an address and a length that leaves out no bit of it
abbrev pub block_from : Option ℕ → Option ℕ → Option Block
block_from (Some address) (Some len) = prefix_of address len
block_from (Some address) None = None
block_from None len = None

-- the prefix of which this is the text: an address, `/` and a length
unfoldable pub block_of : List ℕ → Option Block
block_of text = block_from (address_of (before_first is_slash text)) (length_of (after_first is_slash text))
