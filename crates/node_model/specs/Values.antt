-- One value for all that is told on sessions.
use Rattle.std.specs.Prelude.{Bool, false}
use Rattle.ov_types.specs.declared.numbers.Label.{Label as LabelNo}
use Rattle.ov_types.specs.declared.objects.LowValue.{LowValue}
use Rattle.ov_types.specs.declared.rows.Entry.{Entry as RouteEntry}
use Rattle.ov_types.specs.declared.vpn.VpnRoute.{VpnRoute}
use Rattle.ov_types.specs.contracts.objects.LowValuePartialEq.TheImpl as objects
use Rattle.ov_types.specs.contracts.rows.EntryPartialEq.TheImpl as entries
use Rattle.ov_types.specs.contracts.numbers.LabelPartialEq.TheImpl as labels
use Rattle.ov_types.specs.contracts.vpn.VpnRoutePartialEq.TheImpl as routes

pub data Value : Type 0 where
  -- the value of a low-level object
  Object : LowValue → Value
  -- the value of a route between control nodes
  Route : VpnRoute → Value
  -- the value of a row
  Entry : RouteEntry → Value
  -- the value of a publication. A subscription has label 0, which nothing reads
  Label : LabelNo → Value

-- whether two values are equal
abbrev pub same_value : Value → Value → Bool
same_value (Object a) (Object b) = objects.ghosts.eq a b
same_value (Route a) (Route b) = routes.ghosts.eq a b
same_value (Entry a) (Entry b) = entries.ghosts.eq a b
same_value (Label a) (Label b) = labels.ghosts.eq a b
same_value _ _ = false
