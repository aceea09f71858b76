-- What is asked of a peer: a prefix over the number of an autonomous system and a route target (RFC 4684, section 4).
use Rattle.std.specs.Prelude.{◌≡◌, ℕ, ◌+◌, ◌-◌, ◌*◌, ◌%◌, ◌^◌, ◌==◌, ◌&&◌, ◌||◌, nat_le, Bool, IsTrue, List}
use Rattle.std.specs.List.{AllByRecursion}
use Rattle.ov_sync.specs.declared.Delta.{Delta}
use Rattle.ov_sync.specs.Keyed.{key_of}
use Rattle.rt_membership.specs.declared.asked.Asked.{Asked}

-- a length: 0, or from 32 to 96 bits
abbrev pub is_length : ℕ → Bool
is_length bits = bits == 0 || (nat_le 32 bits && nat_le bits 96)

-- the 96 bits as a number
abbrev pub number_of : Asked → ℕ
number_of a = a.origin * 2 ^ 64 + a.target.0

-- a prefix of a length, and no bit past it
pub record IsAsked (a : Asked) : Type 0 where
  pub length : IsTrue (is_length a.length)
  pub past_the_length : number_of a % 2 ^ (96 - a.length) ≡ 0

-- changes of what is asked have this form
abbrev pub AreAsked : List (Delta Asked Unit) → Type 0
AreAsked deltas = AllByRecursion (λ d. IsAsked (key_of d)) deltas
