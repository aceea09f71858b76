use Rattle.std.specs.Prelude.{◌≡◌, drop, cond, None}
use Rattle.std.specs.FinMap.{get}
use Rattle.ov_types.specs.declared.vpn.VpnKey.{VpnKey}
use Rattle.ov_sync.specs.Keyed.{is_changed}
use Rattle.bgp_restart.specs.Events.{key_order}
use Rattle.bgp_restart.specs.Routes.{routes_in}
use Rattle.bgp_restart.proofs.routes.Routes.forget.Given as goal

abbrev pub invariant-loop-change : goal.invariant-loop-change
invariant-loop-change l =
    (k : VpnKey) → cond (is_changed key_order (drop l.change-index l.changes) k) None (get (routes_in l.self) k)
    ≡ cond (is_changed key_order l.fn.changes k) None (get (routes_in l.fn.self) k)
