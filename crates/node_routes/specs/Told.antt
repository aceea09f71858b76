-- The routes that control nodes tell each other, as changes of the one kind of map that serves every session.
use Rattle.std.specs.Prelude.{◌≤◌, ◌<◌, ◌^◌, ℕ, List, [], length, Option, Some, None, IsTrue}
use Rattle.std.specs.List.{AllByRecursion}
use Rattle.ov_sync.specs.declared.Delta.{Delta}
use Rattle.ov_sync.specs.declared.Delta.TheVariants.{Put, Drop}
use Rattle.ov_types.specs.Targets.{is_target}
use Rattle.ov_types.specs.declared.vpn.VpnKey.{VpnKey}
use Rattle.ov_types.specs.declared.vpn.VpnRoute.{VpnRoute}
use Rattle.bgp_wire.specs.Spelling.{spelling}
use Rattle.bgp_vpn.specs.Written.{written}
use Rattle.node_model.specs.Keys.{Vpn}
use Rattle.node_model.specs.Values.{Route}
use Rattle.node_model.specs.Maps.{Change}

-- the change of a route that a change is
abbrev pub route_change : Change → Option (Delta VpnKey VpnRoute)
route_change (Put (Vpn k) (Route r)) = Some (Put k r)
route_change (Drop (Vpn k)) = Some (Drop k)
route_change _ = None

abbrev pub update_of : Option (Delta VpnKey VpnRoute) → List ℕ
update_of None = []
update_of (Some d) = spelling (written d)

-- the octets of a change on a link: an UPDATE of one route
abbrev pub spelled : Change → List ℕ
spelled c = update_of (route_change c)

-- a route can be written: it has few targets, each of them one, and its label has 20 bits
pub record IsWritable (r : VpnRoute) : Type 0 where
  pub few : length r.targets ≤ 31
  pub targets : AllByRecursion (λ t. IsTrue (is_target t.0)) r.targets
  pub label : r.label.0 < 2 ^ 20
