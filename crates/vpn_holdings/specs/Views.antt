-- What is held of a session, among the keys and values of all sessions.
use Rattle.std.specs.Prelude.{List}
use Rattle.ov_sync.specs.Keyed.{map_of}
use Rattle.ov_sync.specs.Embed.{embedded}
use Rattle.ov_types.specs.declared.keys.UpKey.{UpKey}
use Rattle.ov_types.specs.declared.numbers.Label.{Label as LabelNo}
use Rattle.ov_types.specs.declared.objects.LowKey.{LowKey}
use Rattle.ov_types.specs.declared.objects.LowValue.{LowValue}
use Rattle.ov_types.specs.declared.vpn.VpnKey.{VpnKey}
use Rattle.ov_types.specs.declared.vpn.VpnRoute.{VpnRoute}
pub use Rattle.path_select.specs.NodeModel.Directions.{low_order, vpn_order, up_order}
use Rattle.path_select.specs.NodeModel.Keys.{Low, Vpn, key_cmp, of_up}
use Rattle.path_select.specs.NodeModel.Values.{Object, Route, Label}
use Rattle.path_select.specs.NodeModel.Maps.{Map}
use Rattle.path_select.specs.NodeModel.Paths.{Told}
use Rattle.vpn_holdings.specs.declared.holdings.Agent.{Agent}

abbrev pub feed_of : List (LowKey × LowValue) → Map
feed_of es = embedded {S = key_cmp} Low Object (map_of low_order es)

abbrev pub peer_of : List (VpnKey × VpnRoute) → Map
peer_of es = embedded {S = key_cmp} Vpn Route (map_of vpn_order es)

abbrev pub told_of : List (UpKey × LabelNo) → Map
told_of es = embedded {S = key_cmp} of_up Label (map_of up_order es)

abbrev pub agent_of : Agent → Told
agent_of a = record { session = a.session; address = a.address; map = told_of a.told }
