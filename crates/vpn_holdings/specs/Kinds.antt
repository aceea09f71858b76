-- The kinds of the objects of a feed.
use Rattle.std.specs.Prelude.{◌≡◌, Bool, ◌==◌, ◌||◌}
use Rattle.std.specs.declared.option.Option.TheVariants.{Some}
use Rattle.ov_types.specs.Keys.{kind_of}
use Rattle.ov_types.specs.declared.objects.LowKey.{LowKey}
use Rattle.ov_types.specs.declared.objects.LowValue.{LowValue}
use Rattle.path_select.specs.NodeModel.Maps.{Map, object}

abbrev pub is_network : LowKey → Bool
is_network k = kind_of k == 0

-- attachments and access lists
abbrev pub is_for_agents : LowKey → Bool
is_for_agents k = (kind_of k == 1) || (kind_of k == 2)

abbrev pub is_use : LowKey → Bool
is_use k = kind_of k == 3

-- an entry is held
abbrev pub IsHeld : Map → LowKey × LowValue → Type 0
IsHeld feed e = object feed e.0 ≡ Some e.1
