-- Which circuits stand among labels.
use Rattle.std.specs.Prelude.{◌&&◌, nat_le, Bool, true, IsTrue}
use Rattle.ov_types.specs.declared.rows.Attached.{Attached}
use Rattle.ov_types.specs.declared.rows.Attached.TheVariants.{Port, Circuit}

abbrev pub is_of_a_use : Attached → Bool
is_of_a_use (Port port instance) = true
is_of_a_use (Circuit circuit service) = nat_le 32769 circuit && nat_le circuit 131070

-- what a label leads to, if it is a circuit, is one of a chain's use
abbrev pub IsOfAUse : Attached → Type 0
IsOfAUse t = IsTrue (is_of_a_use t)
