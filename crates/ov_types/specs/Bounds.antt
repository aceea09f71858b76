-- Numbers within bounds.
use Rattle.std.specs.Prelude.{ℕ, Bool, nat_le, ◌&&◌}

-- a number from low to high
abbrev pub is_from_to : ℕ → ℕ → ℕ → Bool
is_from_to low high n = nat_le low n && nat_le n high

-- the address of a node: 1.0.0.0 to 223.255.255.255
abbrev pub is_node_address : ℕ → Bool
is_node_address n = is_from_to 0x0100_0000 0xdfff_ffff n
