-- What the objects of a slice are like.
use Rattle.std.specs.Prelude.{Bool, true}
use Rattle.ov_types.specs.declared.objects.LowValue.{LowValue}
use Rattle.ov_types.specs.declared.objects.LowValue.TheVariants.{AttachCircuit}
use Rattle.item_wire.specs.Entries.{is_from_to}

-- whether an object, if it is a circuit, is one of a chain's use
abbrev pub is_of_a_use : LowValue → Bool
is_of_a_use (AttachCircuit circuit service node) = is_from_to 32769 131070 circuit
is_of_a_use _ = true
