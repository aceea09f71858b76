-- What is asked of the tables.
use Rattle.std.specs.Prelude.{ℕ, ◌-◌, Bool, false, nat_le, List, map, if◌then◌else◌}
use Rattle.std.specs.declared.option.Option.{Option}
use Rattle.std.specs.declared.option.Option.TheVariants.{Some, None}
use Rattle.std.specs.Option.{option_map}
use Rattle.std.specs.List.{list_any}
use Rattle.std.specs.FinMap.{entries}
use Rattle.ov_types.specs.Prefix.{Block}
use Rattle.ov_types.specs.declared.numbers.InstanceId.{InstanceId}
use Rattle.ov_types.specs.declared.objects.LowKey.TheVariants as key
use Rattle.ov_types.specs.declared.rows.TableRow.{TableRow}
use Rattle.route_targets.specs.Numbers.{target_of}
use Rattle.path_select.specs.NodeModel.Maps.{Map, object}
use Rattle.path_select.specs.NodeModel.Uses.{Use, use_from, use_of, place_of, is_hop, imports}
use Rattle.path_select.specs.NodeModel.Paths.{Holdings, Path, has_target}
use Rattle.path_select.specs.NodeModel.Reaching.{Side, subnets, is_up}
use Rattle.path_select.specs.NodeModel.Tables.{same_prefix, table, table_row}

-- ---- a held use, seen from an end
abbrev pub seen_from : Bool → Use → Side
seen_from is_right u = record { chain = u; is_right = is_right }

abbrev pub side_at : Map → ℕ → Bool → Option Side
side_at feed number is_right = option_map (seen_from is_right) (use_from number (object feed (key.ChainUse number)))

-- how far a place is from the end
abbrev pub distance : Side → ℕ → ℕ
distance s place = if s.is_right then s.chain.services - place else place

-- ---- whether a subnet of that side is reachable from an instance of a hop
abbrev pub is_up_on : Holdings → ℕ → Block → Option Side → Bool
is_up_on h place subnet None = false
is_up_on h place subnet (Some s) =
    if nat_le place s.chain.services
    then (if list_any (same_prefix subnet) (subnets s) then is_up h s subnet (distance s place) else false)
    else false

abbrev pub is_up_at : Holdings → InstanceId → Block → Bool → Bool
is_up_at h i subnet is_right =
    if is_hop i then is_up_on h (place_of i) subnet (side_at h.feed (use_of i) is_right) else false

-- ---- a path has the target of an import
abbrev pub is_wanted : Holdings → InstanceId → Path → Bool
is_wanted h i = has_target (map (target_of h.asn) (imports h.feed i))

-- ---- the rows of an instance, in the order of their prefixes
abbrev pub rows_at : Holdings → InstanceId → List (Block × TableRow)
rows_at h i = map (λ e. (e.0, table_row e.1)) (entries (table h i))
