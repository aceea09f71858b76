-- The orders of the typed keys of each direction: those of their types.
use Rattle.std.specs.declared.cmp.Ordering.{Ordering}
use Rattle.ov_types.specs.contracts.keys.DownKeyOrd.TheImpl as down_keys
use Rattle.ov_types.specs.contracts.keys.UpKeyOrd.TheImpl as up_keys
use Rattle.ov_types.specs.contracts.objects.LowKeyOrd.TheImpl as low_keys
use Rattle.ov_types.specs.contracts.vpn.VpnKeyOrd.TheImpl as vpn_keys
use Rattle.ov_types.specs.declared.keys.DownKey.{DownKey}
use Rattle.ov_types.specs.declared.keys.UpKey.{UpKey}
use Rattle.ov_types.specs.declared.objects.LowKey.{LowKey}
use Rattle.ov_types.specs.declared.vpn.VpnKey.{VpnKey}

abbrev pub low_order : LowKey → LowKey → Ordering
low_order = low_keys.ghosts.cmp

abbrev pub vpn_order : VpnKey → VpnKey → Ordering
vpn_order = vpn_keys.ghosts.cmp

abbrev pub down_order : DownKey → DownKey → Ordering
down_order = down_keys.ghosts.cmp

abbrev pub up_order : UpKey → UpKey → Ordering
up_order = up_keys.ghosts.cmp
