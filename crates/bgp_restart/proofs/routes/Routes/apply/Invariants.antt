use Rattle.std.specs.Prelude.{◌≡◌, true}
use Rattle.ov_types.specs.declared.vpn.VpnKey.{VpnKey}
use Rattle.ov_sync.specs.Keyed.{after, is_changed}
use Rattle.bgp_restart.specs.Events.{key_order}
use Rattle.bgp_restart.specs.Routes.{has_room, routes_in}
use Rattle.bgp_restart.proofs.routes.Routes.apply.Given as goal

abbrev pub invariant-loop-change : goal.invariant-loop-change
invariant-loop-change l = record {
  room : (k : VpnKey) → is_changed key_order l.change-iterator.rest.items k ≡ true → has_room l.self k ≡ true;
  so_far : after (routes_in l.self) l.change-iterator.rest.items ≡ after (routes_in l.fn.self) l.fn.changes.items;
}
