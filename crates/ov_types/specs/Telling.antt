-- Targets that have one text.
use Rattle.std.specs.Prelude.{◌≡◌, ◌≢◌, ◌≤◌, ℕ, ◌/◌, ◌%◌, ◌^◌}

-- the first octet of a target is its type, and the second its subtype (RFC 4360, section 2)
abbrev pub type_of : ℕ → ℕ
type_of n = n / 2 ^ 56

abbrev pub subtype_of : ℕ → ℕ
subtype_of n = n / 2 ^ 48 % 2 ^ 8

-- two targets of one of the types that have a form of their own differ in their subtype and in nothing else
pub record DifferInTheirSubtype (m n : ℕ) : Type 0 where
  pub named : type_of m ≤ 2
  pub type : type_of m ≡ type_of n
  pub subtype : subtype_of m ≢ subtype_of n
  pub rest : m % 2 ^ 48 ≡ n % 2 ^ 48
