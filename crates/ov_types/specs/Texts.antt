-- The texts of addresses, prefixes and distinguishers.
use Rattle.std.specs.Prelude.{ℕ, ◌/◌, ◌%◌, ◌^◌, ◌-◌, ◌++◌, ◌==◌, List, [], codes, decimal, if◌then◌else◌, false}
use Rattle.std.specs.Fmt.{digits, padded_integral, format_spec}
use Rattle.ov_types.specs.Prefix.{Block}

-- four decimal numbers, most significant first, joined by points
abbrev pub address_text : ℕ → List ℕ
address_text n =
    decimal (n / 16777216 % 256) ++ (codes "." ++ (decimal (n / 65536 % 256) ++ (codes "."
    ++ (decimal (n / 256 % 256) ++ (codes "." ++ decimal (n % 256))))))

-- an address, `/` and the length
abbrev pub prefix_text : Block → List ℕ
prefix_text b = address_text b.addr ++ (codes "/" ++ decimal b.len)

-- eight octets as a number, in hexadecimal: 16 digits
abbrev pub hex_text : ℕ → List ℕ
hex_text n = padded_integral (format_spec 32 0 4 16 (2 ^ 64 - 1)) false [] (digits 16 false n)

-- a distinguisher or a target of a kind: of kind 0 `AS:N` with two octets and four, of kind 1 `ADDRESS:N`,
-- of kind 2 `LAS:N` with the letter L and four octets and two, and of another `x` and its 16 digits
unfoldable pub kinded_text : ℕ → ℕ → List ℕ
kinded_text kind n =
    if kind == 0 then decimal (n / 2 ^ 32 % 2 ^ 16) ++ (codes ":" ++ decimal (n % 2 ^ 32))
    else (if kind == 1 then address_text (n / 2 ^ 16 % 2 ^ 32) ++ (codes ":" ++ decimal (n % 2 ^ 16))
    else (if kind == 2 then codes "L" ++ (decimal (n / 2 ^ 16 % 2 ^ 32) ++ (codes ":" ++ decimal (n % 2 ^ 16)))
    else codes "x" ++ hex_text n))

-- a distinguisher, whose first two octets are its type (RFC 4364, section 4.2)
abbrev pub distinguisher_text : ℕ → List ℕ
distinguisher_text n = kinded_text (n / 2 ^ 48) n

-- a target, whose first octet is its type
abbrev pub target_text : ℕ → List ℕ
target_text n = kinded_text (n / 2 ^ 56) n
