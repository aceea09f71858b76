-- Keys that peers and agents are told, among the keys and values of all sessions.
use Rattle.std.specs.Prelude.{◌≡◌, List, cond}
use Rattle.std.specs.declared.option.Option.{Option}
use Rattle.std.specs.Option.{option_map}
use Rattle.std.specs.Ordering.{eq_by_cmp}
use Rattle.std.specs.FinMap.{get}
use Rattle.std.proofs.Common.{refl}
use Rattle.ov_sync.specs.Embed.{moved_delta}
use Rattle.ov_sync.specs.Keyed.{change, map_of, set_key}
use Rattle.ov_types.specs.contracts.keys.DownValuePartialEq.TheImpl as down_values
use Rattle.ov_types.specs.contracts.vpn.VpnRoutePartialEq.TheImpl as vpn_routes
use Rattle.ov_types.specs.declared.keys.DownKey.{DownKey}
use Rattle.ov_types.specs.declared.keys.DownValue.{DownValue}
use Rattle.ov_types.specs.declared.keys.DownValue.TheVariants as Told
use Rattle.ov_types.specs.declared.vpn.VpnKey.{VpnKey}
use Rattle.ov_types.specs.declared.vpn.VpnRoute.{VpnRoute}
use Rattle.node_core.specs.Told.{down_of, down_value}
use Rattle.vpn_tables.specs.NodeModel.Directions.{down_order, vpn_order}
use Rattle.vpn_tables.specs.NodeModel.Keys.{Vpn, of_down}
use Rattle.vpn_tables.specs.NodeModel.Values.{Route, same_value}
use Rattle.vpn_tables.proofs.NodeModel.Directions.{vpn_keeps, vpn_total, vpn_exact, down_keeps, down_total, down_exact}
use Rattle.vpn_tables.proofs.NodeModel.Orders.{key_exact, key_total}
use Rattle.vpn_tables.specs.Views.{peer_of}
use Rattle.control_wants.proofs.Moved.{now_set, now_told}

pub agree : (v w : DownValue) → same_value (down_value v) (down_value w) ≡ down_values.ghosts.eq v w
agree (Told.Object a) (Told.Object b) = refl
agree (Told.Object a) (Told.Row b) = refl
agree (Told.Row a) (Told.Object b) = refl
agree (Told.Row a) (Told.Row b) = refl

-- ---- routes
pub route_set : (es fs : List (VpnKey × VpnRoute)) (k : VpnKey) (w : Option VpnRoute)
    → ((q : VpnKey) → get (map_of vpn_order fs) q ≡ cond (eq_by_cmp vpn_order q k) w (get (map_of vpn_order es) q))
    → peer_of fs ≡ set_key (peer_of es) (Vpn k) (option_map Route w)
route_set es fs k w h = now_set Vpn Route vpn_total key_total vpn_keeps vpn_exact key_exact vpn_routes.ghosts.eq same_value (λ v w. refl) (map_of vpn_order es) (map_of vpn_order fs) k w h

pub route_told : (es : List (VpnKey × VpnRoute)) (k : VpnKey) (w : Option VpnRoute)
    → option_map (moved_delta Vpn Route) (change vpn_routes.ghosts.eq k (get (map_of vpn_order es) k) w) ≡ change same_value (Vpn k) (get (peer_of es) (Vpn k)) (option_map Route w)
route_told es k w = now_told Vpn Route vpn_total key_total vpn_keeps vpn_exact key_exact vpn_routes.ghosts.eq same_value (λ v w. refl) (map_of vpn_order es) k w

-- ---- items
pub item_set : (es fs : List (DownKey × DownValue)) (k : DownKey) (w : Option DownValue)
    → ((q : DownKey) → get (map_of down_order fs) q ≡ cond (eq_by_cmp down_order q k) w (get (map_of down_order es) q))
    → down_of fs ≡ set_key (down_of es) (of_down k) (option_map down_value w)
item_set es fs k w h = now_set of_down down_value down_total key_total down_keeps down_exact key_exact down_values.ghosts.eq same_value agree (map_of down_order es) (map_of down_order fs) k w h

pub item_told : (es : List (DownKey × DownValue)) (k : DownKey) (w : Option DownValue)
    → option_map (moved_delta of_down down_value) (change down_values.ghosts.eq k (get (map_of down_order es) k) w) ≡ change same_value (of_down k) (get (down_of es) (of_down k)) (option_map down_value w)
item_told es k w = now_told of_down down_value down_total key_total down_keeps down_exact key_exact down_values.ghosts.eq same_value agree (map_of down_order es) k w
