-- What a change of one route, or of one publication, touches: the instances that import one of its targets, and the held
-- uses that have a hop instance among them.
use Rattle.std.specs.Prelude.{ℕ, ◌+◌, ◌*◌, List, [], ◌++◌, map, length, Bool, ◌==◌, if◌then◌else◌}
use Rattle.std.specs.List.{filter, flat_map, list_any, sum_by}
use Rattle.ov_types.specs.Prefix.{Block}
use Rattle.ov_types.specs.declared.keys.UpKey.{UpKey}
use Rattle.ov_types.specs.declared.keys.UpKey.TheVariants as Up
use Rattle.ov_types.specs.declared.numbers.InstanceId.{InstanceId}
use Rattle.ov_types.specs.declared.targets.Target.{Target}
use Rattle.route_targets.specs.Numbers.{target_of}
use Rattle.path_select.specs.NodeModel.Uses.{Use, uses, imports}
use Rattle.path_select.specs.NodeModel.Paths.{Holdings}
use Rattle.path_select.specs.NodeModel.Tables.{known_instances}
use Rattle.vpn_holdings.specs.Listing.{hops}

-- an instance imports one of these targets
abbrev pub imports_one : Holdings → List Target → InstanceId → Bool
imports_one h targets i = list_any (λ t. list_any (λ u. t.0 == u.0) (map (target_of h.asn) (imports h.feed i))) targets

abbrev pub is_touched : Holdings → List Target → Use → Bool
is_touched h targets u = list_any (imports_one h targets) (hops u)

-- the rows that a change of a path to this prefix may change: of each importing instance that of the prefix, and of each
-- place of a touched use those of the use's subnets
abbrev pub rows_at_use : Use → List (InstanceId × Block)
rows_at_use u = flat_map (λ i. map (λ subnet. (i, subnet)) (u.left_subnets ++ u.right_subnets)) (hops u)

abbrev pub touched_rows : Holdings → List Target → Block → List (InstanceId × Block)
touched_rows h targets prefix =
    map (λ i. (i, prefix)) (filter (imports_one h targets) (known_instances h.feed))
    ++ flat_map rows_at_use (filter (is_touched h targets) (uses h.feed))

-- the rows that a change of what an agent told may change: of a subscription none
abbrev pub rows_by_key : Holdings → List Target → UpKey → List (InstanceId × Block)
rows_by_key h targets (Up.Publish i prefix) = touched_rows h targets prefix
rows_by_key h targets (Up.Subscribe i) = []

-- how many they are
abbrev pub weight : Use → ℕ
weight u = (u.services + 1) * length (u.left_subnets ++ u.right_subnets)

abbrev pub touched : Holdings → List Target → ℕ
touched h targets =
    length (filter (imports_one h targets) (known_instances h.feed))
    + sum_by weight (filter (is_touched h targets) (uses h.feed))

-- ---- use by use
abbrev pub rows_if_touched : Holdings → List Target → Use → List (InstanceId × Block)
rows_if_touched h targets u = if is_touched h targets u then rows_at_use u else []
