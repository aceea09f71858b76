-- The form of groups.
use Rattle.std.specs.Prelude.{ℕ, List, [], ◌∷◌, length, nat_lt, nat_le, Bool, true, ◌&&◌}
use Rattle.std.specs.List.{list_all}
use Rattle.ov_types.specs.Name.{is_name}
use Rattle.ov_types.specs.Bounds.{is_from_to}
use Rattle.scale_out.specs.declared.groups.Group.{Group}

-- each number is below the next
abbrev pub is_ascending : List ℕ → Bool
is_ascending [] = true
is_ascending (x ∷ []) = true
is_ascending (x ∷ (y ∷ ys)) = nat_lt x y && is_ascending (y ∷ ys)

-- 1 to 16 numbers 0 to 65535, ascending and distinct
unfoldable pub are_members : List ℕ → Bool
are_members members = is_from_to 1 16 (length members) && list_all (λ m. nat_le m 65535) members && is_ascending members

abbrev pub has_group_form : Group → Bool
has_group_form g = is_name g.service && are_members g.members
