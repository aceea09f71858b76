-- Ascending lists of targets.
use Rattle.std.specs.Prelude.{◌≡◌, ◌≤◌, insert, length, ℕ, ◌<◌, ◌/◌, ◌%◌, ◌^◌, ◌==◌, ◌&&◌, nat_lt, nat_le, Bool, List}
use Rattle.std.specs.Prelude.{[], ◌∷◌, if◌then◌else◌}
use Rattle.ov_types.specs.declared.targets.Target.{Target}
use Rattle.ov_types.specs.declared.targets.TargetPlace.{TargetPlace}
use Rattle.ov_types.specs.declared.targets.TargetPlace.TheVariants.{Held, Before}

-- eight octets of an extended community are a route target: type 0x00, 0x01 or 0x02, and subtype 0x02 (RFC 4360,
-- section 4; RFC 5668)
abbrev pub is_target : ℕ → Bool
is_target community = nat_le (community / 2 ^ 56) 2 && community / 2 ^ 48 % 256 == 2

-- ascending and distinct, and all above a number
abbrev pub AscendFrom : ℕ → List Target → Type 0
AscendFrom n [] = Unit {0}
AscendFrom n (x ∷ xs) = (n < x.0) × AscendFrom x.0 xs

-- ascending and distinct
abbrev pub IsAscending : List Target → Type 0
IsAscending [] = Unit {0}
IsAscending (x ∷ xs) = AscendFrom x.0 xs

-- the list with a target in its place
abbrev pub with_target : Target → List Target → List Target
with_target t [] = t ∷ []
with_target t (x ∷ xs) = if nat_lt t.0 x.0 then t ∷ x ∷ xs else (if t.0 == x.0 then x ∷ xs else x ∷ with_target t xs)

-- where a target goes in a list
abbrev pub IsPlace : Target → List Target → TargetPlace → Type 0
IsPlace t xs Held = with_target t xs ≡ xs
IsPlace t xs (Before i) = (i ≤ length xs) × (with_target t xs ≡ insert xs i t)
