-- Which of the routes of one key counts, in the subject's words.
use Rattle.std.specs.Prelude.{◌≡◌, ◌≢◌, List, ◌∷◌, ◌++◌, true, false}
use Rattle.ov_types.specs.declared.vpn.VpnKey.{VpnKey}
use Rattle.ov_types.specs.declared.vpn.VpnRoute.{VpnRoute}
use Rattle.vpn_tables.specs.NodeModel.Members.{Member}
use Rattle.vpn_tables.specs.NodeModel.Paths.{Holdings, Path}
use Rattle.vpn_tables.specs.NodeModel.Reaching.{reoriginated_paths}
use Rattle.vpn_tables.specs.NodeModel.Uses.{Use}
use Rattle.vpn_tables.specs.Leading.{leads}
use Rattle.chain_reorigin.specs.Told.{told_key, told_path}

-- a path of the list is told so, and none before it has its key
pub record IsFirst (paths : List Path) (key : VpnKey) (route : VpnRoute) : Type 0 where
  pub before : List Path
  pub path : Path
  pub after : List Path
  pub stands : paths ≡ before ++ path ∷ after
  pub told : told_path path ≡ (key, route)
  pub none_before : (p : Path) → Member p before → told_key p ≢ key

-- the routes that lead a use's right subnets on stand right before those of its left ones
pub record RightFirst (h : Holdings) (u : Use) : Type 0 where
  pub before : List Path
  pub after : List Path
  pub stands : reoriginated_paths h
      ≡ before ++ (leads h (record { chain = u; is_right = true })
      ++ (leads h (record { chain = u; is_right = false }) ++ after))
