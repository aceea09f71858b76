use Rattle.std.specs.Prelude.{◌≡◌, ◌||◌, true, drop}
use Rattle.ov_types.specs.declared.vpn.VpnKey.{VpnKey}
use Rattle.ov_sync.specs.Keyed.{is_changed}
use Rattle.bgp_restart.specs.Events.{key_order}
use Rattle.bgp_restart.specs.Routes.{has_room, routes_in}
use Rattle.bgp_restart.proofs.routes.Routes.add_rooms.Given as goal

abbrev pub invariant-loop-change : goal.invariant-loop-change
invariant-loop-change l = record {
  routes : routes_in l.self ≡ routes_in l.fn.self;
  room : (k : VpnKey) → is_changed key_order l.changes k ≡ true
      → (is_changed key_order (drop l.change-index l.changes) k || has_room l.self k) ≡ true;
}
