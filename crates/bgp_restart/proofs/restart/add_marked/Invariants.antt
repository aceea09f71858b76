use Rattle.std.specs.Prelude.{◌≡◌}
use Rattle.std.specs.Option.{option_or}
use Rattle.std.specs.FinMap.{get}
use Rattle.ov_types.specs.declared.vpn.VpnKey.{VpnKey}
use Rattle.ov_sync.specs.Keyed.{map_of}
use Rattle.ov_sync.proofs.Ascending.{Ascends}
use Rattle.bgp_restart.specs.Events.{key_order}
use Rattle.bgp_restart.specs.Keeping.{marked}
use Rattle.bgp_restart.specs.Routes.{routes_in}
use Rattle.bgp_restart.proofs.restart.add_marked.Given as goal

abbrev pub invariant-loop-key : goal.invariant-loop-key
invariant-loop-key l =
    (goal.iterator-loop-key).can_next l.key-iterator ×
    (goal.iterator-loop-key).is_finite l.key-iterator ×
    Ascends key_order l.key-iterator ×
    ((k : VpnKey) → option_or (marked l.is_stale (get (routes_in l.key-iterator) k)) (get (map_of key_order l.all) k)
    ≡ option_or (marked l.is_stale (get (routes_in l.routes) k)) (get (map_of key_order l.fn.all) k))
