-- The paths of an instance to one prefix.
use Rattle.std.specs.Prelude.{◌≡◌, ℕ, zero, suc, nat_le, List, [], ◌∷◌, map, Bool, false, ◌&&◌, if◌then◌else◌}
use Rattle.std.specs.declared.option.Option.{Option}
use Rattle.std.specs.declared.option.Option.TheVariants.{Some, None}
use Rattle.std.specs.Option.{option_map}
use Rattle.std.specs.List.{list_any}
use Rattle.std.specs.FinMap.{get}
use Rattle.ov_types.specs.Prefix.{Block}
use Rattle.ov_types.specs.declared.numbers.InstanceId.{InstanceId}
use Rattle.ov_types.specs.declared.rows.TableRow.{TableRow}
use Rattle.ov_types.specs.declared.targets.Target.{Target}
use Rattle.path_select.specs.NodeModel.Members.{Member}
use Rattle.path_select.specs.NodeModel.Keys.{Key, Publish}
use Rattle.path_select.specs.NodeModel.Uses.{is_hop, place_of, use_of}
use Rattle.path_select.specs.NodeModel.Paths as model
use Rattle.path_select.specs.NodeModel.Paths.{Holdings, has_target}
use Rattle.path_select.specs.NodeModel.Reaching.{Side, circuit_at, hop_at, is_up, publisher, subnets, towards}
use Rattle.path_select.specs.NodeModel.Tables.{of_prefix, paths_of, same_prefix, table, table_row}
use Rattle.path_select.specs.declared.selection.Path.{Path}
use Rattle.path_select.specs.Selection.{is_better, plain}
use Rattle.vpn_holdings.specs.Answers.{distance, side_at}

-- the row of an instance for a prefix
abbrev pub row_at : Holdings → InstanceId → Block → Option TableRow
row_at h i prefix = option_map table_row (get (table h i) prefix)

-- what a key publishes is to this prefix
abbrev pub publishes_to : Block → Key → Bool
publishes_to prefix (Publish i found) = same_prefix found prefix
publishes_to prefix _ = false

-- a path has this target, and is to this prefix
abbrev pub is_led_at : Target → Block → model.Path → Bool
is_led_at t prefix p = has_target (t ∷ []) p && same_prefix p.prefix prefix

-- ---- the route that leads a subnet of a side on into an instance of a hop, where there is one
abbrev pub led_from : Holdings → Side → ℕ → Block → List model.Path
led_from h s zero prefix = []
led_from h s (suc d) prefix =
    if is_up h s prefix d then towards h (hop_at s (suc d)) prefix (publisher h (circuit_at s (suc d))) else []

abbrev pub led_on_side : Holdings → ℕ → Block → Option Side → List model.Path
led_on_side h place prefix None = []
led_on_side h place prefix (Some s) =
    if nat_le place s.chain.services
    then (if list_any (same_prefix prefix) (subnets s) then led_from h s (distance s place) prefix else [])
    else []

abbrev pub led_at : Holdings → InstanceId → Block → Bool → List model.Path
led_at h i prefix is_right =
    if is_hop i then led_on_side h (place_of i) prefix (side_at h.feed (use_of i) is_right) else []

-- the paths of an instance to a prefix, without their prefix and targets
abbrev pub paths_at : Holdings → InstanceId → Block → List Path
paths_at h i prefix = map plain (of_prefix prefix (paths_of h i))

-- the path that is selected for a prefix of an instance
abbrev pub selected_at : Holdings → InstanceId → Block → Option Path
selected_at h i prefix = option_map plain (get (table h i) prefix)

-- the one of two paths that is used, where they are there, and that of many which some places have
abbrev pub better_with : Path → Option Path → Option Path
better_with p None = Some p
better_with p (Some b) = if is_better p b then Some p else Some b

abbrev pub better_of : Option Path → Option Path → Option Path
better_of best None = best
better_of best (Some p) = better_with p best

abbrev pub best_over : {X : Type 0} → (X → Option Path) → Option Path → List X → Option Path
best_over f best [] = best
best_over f best (x ∷ xs) = best_over f (better_of best (f x)) xs

-- one of some paths, and none of them is better; or there are none
abbrev pub IsChosen : List Path → Option Path → Type 0
IsChosen paths None = paths ≡ []
IsChosen paths (Some p) = Member p paths × ((q : Path) → Member q paths → is_better q p ≡ false)

abbrev pub shown : Path → TableRow
shown p = record { rd = p.rd; next_hop = p.next_hop; label = p.label }
