-- The keys towards peers that a change of one route, or of one publication, touches.
use Rattle.std.specs.Prelude.{◌≡◌, ◌⊎◌, List, true}
use Rattle.ov_types.specs.declared.targets.Target.{Target}
use Rattle.node_model.specs.Members.{Member}
use Rattle.node_model.specs.Keys.{Key}
use Rattle.node_model.specs.Paths.{Holdings, Path}
use Rattle.node_model.specs.Reaching.{Side, sides}
use Rattle.node_model.specs.Wants.{route_entry}
use Rattle.vpn_holdings.specs.Leading.{leads}
use Rattle.vpn_holdings.specs.Touched.{is_touched}

-- a key towards peers that may change where the one holdings become the other by a change that moves some paths and has
-- some targets: that of a path that moved, or of a route that leads on, before or after, along a use that is touched
pub record IsTouchedKey (moved : List Path) (targets : List Target) (h g : Holdings) (k : Key) : Type 0 where
  pub path : Path
  pub key_is : (route_entry path).0 ≡ k
  pub stands : Member path moved ⊎ ((s : Side) × Member s (sides h.feed) × (is_touched h targets s.chain ≡ true)
      × (Member path (leads h s) ⊎ Member path (leads g s)))
